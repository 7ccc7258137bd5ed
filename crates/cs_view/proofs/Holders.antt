-- A roll that has a node that asks for a snapshot is among the known ones.
use Rattle.std.proofs.Common.{◌≡◌, ◌∙◌, ℕ, ◌==◌, ◌||◌, Bool, true, false, List, [], ◌∷◌, Option, Some, None, refl, sym, ap}
use Rattle.std.specs.List.{find, list_any}
use Rattle.std.specs.Option.{IsSome, MatchOption, is_some}
use Rattle.std.specs.Prelude.{⊤}
use Rattle.std.proofs.lemmas.Bool.{eq-eqb, true≢false}
use Rattle.std.proofs.lemmas.Option.{none-some, same_Some}
use Rattle.cs_base.specs.declared.change.Mode.{Mode}
use Rattle.cs_base.specs.declared.change.Mode.TheVariants.{Partial, Full}
use Rattle.cs_base.specs.declared.member.Member.{Member}
use Rattle.cs_roll.specs.Roll.{member_of}
use Rattle.cs_roll.specs.Sight.{Rolls, at_region}
use Rattle.cs_view.specs.Snapshot.{rolls_for}
use Rattle.cs_view.specs.View.{holder}
use Rattle.cs_view.proofs.Finding.{any-there}

-- a test passes where its second part does
or-later : (a b : Bool) → b ≡ true → (a || b) ≡ true
or-later true b is = refl
or-later false b is = is

-- the region of a pair that is found is among theirs
among-found : {X : Type 0} (test : ℕ × X → Bool) (pairs : List (ℕ × X)) (pair : ℕ × X) → find test pairs ≡ Some pair
    → list_any (λ (p : ℕ × X). p.0 == pair.0) pairs ≡ true
among-found test [] pair found = absurd (none-some pair found)
among-found {X} test (p ∷ pairs) pair found = by_test (among-found test pairs pair) (test p) refl
  where
    rest : Bool
    rest = list_any (λ (q : ℕ × X). q.0 == pair.0) pairs

    by_test : (find test pairs ≡ Some pair → rest ≡ true) → (b : Bool) → test p ≡ b → ((p.0 == pair.0) || rest) ≡ true
    by_test later true e =
        let same : p ≡ pair = same_Some p pair (rw e at found) in
        rw (eq-eqb p.0 pair.0 (ap (λ (q : ℕ × X). q.0) same)) refl
    by_test later false e = or-later (p.0 == pair.0) rest (later (rw e at found))

-- what is there is something
IsSome-there : {X : Type 0} (o : Option X) → is_some o ≡ true → IsSome o
IsSome-there None is = absurd (true≢false (sym is))
IsSome-there (Some x) is = refl

-- so the roll that has a member is known by its region
known-holder : (id : ℕ) (rolls : Rolls) (pair : ℕ × List Member) → holder id rolls ≡ Some pair → IsSome (at_region pair.0 rolls)
known-holder id rolls pair found =
    IsSome-there (at_region pair.0 rolls)
    (sym (any-there pair.0 rolls) ∙ among-found (λ (p : ℕ × List Member). is_some (member_of id p.1)) rolls pair found)

-- and what a snapshot for the member shows is a known roll, or every one
pub known-rolls_for : (id : ℕ) (mode : Mode) (rolls : Rolls) (pair : ℕ × List Member) → holder id rolls ≡ Some pair
    → MatchOption (rolls_for mode pair.0) ⊤ (λ region. IsSome (at_region region rolls))
known-rolls_for id Partial rolls pair found = known-holder id rolls pair found
known-rolls_for id Full rolls pair found = tt
