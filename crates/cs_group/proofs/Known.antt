-- Whether a number is among some.
use Rattle.std.proofs.Common.{◌≡◌, ℕ, ◌==◌, List, [], ◌∷◌, true, false, Contains, refl, subst, inl, inr}
use Rattle.std.specs.List.{AllByRecursion}
use Rattle.std.specs.Bool.{Decides}
use Rattle.std.proofs.lemmas.Bool.{eqb-true, false_from_ne_true, or_cases}
use Rattle.std.proofs.lemmas.Bool.Decides.{Decides-by_or, Decides-eqb}
use Rattle.std.proofs.lemmas.List.Elements.{Decides-contains}
use Rattle.cs_group.specs.Group.{is_among}

pub Decides-is_among : (ns : List ℕ) (n : ℕ) → Decides (is_among ns n) (Contains ns n)
Decides-is_among ns n =
    Decides-contains ns n (is_among ns n)
    (Decides-by_or (λ m. m == n) (λ m. m ≡ n) (λ ms. is_among ms n) (λ m. Decides-eqb m n) refl (λ _ _. refl) ns)

-- a number that isn't there is not among them
pub not_among : (ns : List ℕ) (n : ℕ) → ¬ (Contains ns n) → is_among ns n ≡ false
not_among ns n absent = false_from_ne_true (is_among ns n) (λ e. absent ((Decides-is_among ns n).0 e))

-- what all have, one among them has
pub among-holds : (P : ℕ → Type 0) (n : ℕ) (ns : List ℕ) → AllByRecursion P ns → is_among ns n ≡ true → P n
among-holds P n [] all some = absurd (cc)
among-holds P n (m ∷ ms) all some = elim (or_cases (m == n) (is_among ms n) some) [
  | inl here ↦ subst P (eqb-true m n here) all.0
  | inr later ↦ among-holds P n ms all.1 later
]
