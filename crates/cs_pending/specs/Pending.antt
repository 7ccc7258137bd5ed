-- Pending changes: at most one about each member, in the order in which the members came.
use Rattle.std.specs.Prelude.{◌≡◌, ℕ, ◌≤◌, ◌==◌, nat_lt, List, [], ◌∷◌, ◌++◌}
use Rattle.std.specs.Prelude.{length, Option, Some, None, if◌then◌else◌}
use Rattle.std.specs.List.{AllByRecursion}
use Rattle.cs_base.specs.Ascending.{at_key, IsDistinctBy}
use Rattle.cs_base.specs.Changes.{id_of, rank_of}
use Rattle.cs_base.specs.Limits.{most_pending}
use Rattle.cs_base.specs.declared.change.Change.{Change}
use Rattle.cs_pending.specs.declared.offer.Offer.{Offer}
use Rattle.cs_pending.specs.declared.offer.Offer.TheVariants.{New, Replaced, Weaker, Full, Memory}

-- no two pending changes have the same key: the member that a change is about
abbrev pub key_of : Change → ℕ
key_of change = id_of change

-- few changes, with distinct keys
pub record IsPending (pending : List Change) : Type 0 where
  pub few : length pending ≤ most_pending
  pub distinct : IsDistinctBy key_of pending

-- the change in the place of the one with its key
abbrev pub replaced : Change → List Change → List Change
replaced change [] = []
replaced change (c ∷ pending) = if key_of c == key_of change then change ∷ pending else c ∷ replaced change pending

-- what a change meets that is offered to so many, one of which may have its key
abbrev pub offer_against : Option Change → ℕ → Change → Offer
offer_against (Some there) count change = if nat_lt (rank_of there) (rank_of change) then Replaced else Weaker
offer_against None count change = if nat_lt count most_pending then New else Full

-- what an offered change meets
abbrev pub offer_of : List Change → Change → Offer
offer_of pending change = offer_against (at_key key_of (key_of change) pending) (length pending) change

-- the pending changes after the offer
abbrev pub after_offer : Offer → List Change → Change → List Change
after_offer New pending change = pending ++ change ∷ []
after_offer Replaced pending change = replaced change pending
after_offer Weaker pending change = pending
after_offer Full pending change = pending
after_offer Memory pending change = pending

-- few pairs of a change and its key
pub record IsTable (entries : List (ℕ × Change)) : Type 0 where
  pub few : length entries ≤ most_pending
  pub keyed : AllByRecursion (λ e. e.0 ≡ key_of e.1) entries
