-- How many offers met what.
use Rattle.std.specs.Prelude.{◌≡◌, ℕ, ◌+◌, ◌<◌, ◌≤◌, List, length, take}
use Rattle.std.specs.List.{fold}
use Rattle.cs_base.specs.declared.change.Change.{Change}
use Rattle.cs_pending.specs.Pending.{after_offer, offer_of}
use Rattle.cs_pending.specs.declared.offer.Counts.{Counts}
use Rattle.cs_pending.specs.declared.offer.Offer.{Offer}
use Rattle.cs_pending.specs.declared.offer.Offer.TheVariants.{New, Replaced, Weaker, Full, Memory}

abbrev pub no_counts : Counts
no_counts = record { fresh = 0; replaced = 0; weaker = 0; full = 0 }

-- one more offer that met this
abbrev pub counted : Counts → Offer → Counts
counted c New = record c { fresh = c.fresh + 1 }
counted c Replaced = record c { replaced = c.replaced + 1 }
counted c Weaker = record c { weaker = c.weaker + 1 }
counted c Full = record c { full = c.full + 1 }
counted c Memory = c

-- each count is at most this
pub record IsAtMost (most : ℕ) (c : Counts) : Type 0 where
  pub fresh : c.fresh ≤ most
  pub replaced : c.replaced ≤ most
  pub weaker : c.weaker ≤ most
  pub full : c.full ≤ most

-- the pending changes and the counts after one more offer
abbrev pub one_offered : List Change × Counts → Change → List Change × Counts
one_offered so_far change =
    let offer = offer_of so_far.0 change in
    (after_offer offer so_far.0 change, counted so_far.1 offer)

-- the pending changes after each of these was offered in order, and how many offers met what
abbrev pub all_offered : List Change → List Change → List Change × Counts
all_offered pending changes = fold one_offered (pending, no_counts) changes

-- some of the first changes were offered, but not all
pub record IsFrontOffered (before changes after : List Change) : Type 0 where
  pub count : ℕ
  pub fewer : count < length changes
  pub front : after ≡ (all_offered before (take count changes)).0
