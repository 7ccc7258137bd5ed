-- Ascending numbers: what a search for one tells, and what placing it there gives.
use Rattle.std.proofs.Common.{◌≡◌, ℕ, List, get_or, set, IsTrue, ◌↔◌, Contains, Result, Ok, Err, IfOk, IfErr, refl, ◌∙◌}
use mathlib.Core.Bool.{false≢true}
use Rattle.std.specs.Result.{is_ok}
use Rattle.std.proofs.lemmas.List.{set-get_or}
use Rattle.cs_base.specs.Ascending.{IsAscending, IsAt, IsGap, placed_by}
use Rattle.cs_base.proofs.Ascending.{placed-at, no_key-gap}

-- a number that is there is placed already
pub placed_already : (ns : List ℕ) (n i : ℕ) → IsAscending ns → IsAt (λ m. m) n ns i → placed_by (λ m. m) n ns ≡ ns
placed_already ns n i up at =
    let same : set ns i (get_or ns i n) ≡ ns = set-get_or ns i n in
    placed-at (λ m. m) n ns i up at ∙ (rw (at.has_key n) at same)

-- a number with a gap is not there
pub absent_in_gap : (ns : List ℕ) (n i : ℕ) → IsGap (λ m. m) n ns i → ¬ (Contains ns n)
absent_in_gap ns n i gap has = no_key-gap (λ m. m) n ns i gap has.0 n has.1 has.2

-- a number is there where the search finds it
pub found_is_there : (ns : List ℕ) (n : ℕ) (r : Result ℕ ℕ) → IfOk r (IsAt (λ m. m) n ns) → IfErr r (IsGap (λ m. m) n ns)
    → IsTrue (is_ok r) ↔ Contains ns n
found_is_there ns n (Ok i) at gap = (λ _. (i, at.in_range, at.has_key n), λ _. refl)
found_is_there ns n (Err i) at gap = (λ e. absurd (false≢true e), λ has. absurd (absent_in_gap ns n i gap has))
