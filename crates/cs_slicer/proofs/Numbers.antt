-- Which numbers are among others, and that ascending lists of the same numbers are the same.
use Rattle.std.proofs.Common.{◌≡◌, ◌==◌, ◌||◌, ℕ, Bool, true, false, if◌then◌else◌, List, [], ◌∷◌, Some, None, refl, sym, ap, ◌∙◌}
use Rattle.std.proofs.lemmas.Bool.{eqb-true}
use Rattle.cs_base.specs.Ascending.{IsAscending, at_key, placed_by}
use Rattle.cs_base.proofs.Ascending.{same_at_keys}
use Rattle.cs_group.specs.Group.{is_among}
use Rattle.cs_slicer.proofs.Beside.{placed_each}
use Rattle.cs_slicer.proofs.Regions.{among-placed, or-second}

-- at a number that is among some stands that number
at_key-number : (k : ℕ) (ns : List ℕ) → at_key (λ n. n) k ns ≡ (if is_among ns k then Some k else None)
at_key-number k [] = refl
at_key-number k (n ∷ ns) = by_key (n == k) refl (at_key-number k ns)
  where
    by_key : (same : Bool) → (n == k) ≡ same → at_key (λ m. m) k ns ≡ (if is_among ns k then Some k else None)
        → at_key (λ m. m) k (n ∷ ns) ≡ (if is_among (n ∷ ns) k then Some k else None)
    by_key true e rest = (let same : n ≡ k = eqb-true n k e in rw e (ap (λ (m : ℕ). Some m) same))
    by_key false e rest = rw e rest

-- ascending numbers are the same where the same numbers are among them
pub same_among : (ms ns : List ℕ) → IsAscending ms → IsAscending ns → ((k : ℕ) → is_among ms k ≡ is_among ns k) → ms ≡ ns
same_among ms ns up_m up_n same =
    same_at_keys (λ n. n) ms ns up_m up_n
    (λ k. at_key-number k ms ∙ (ap (λ b. if b then Some k else None) (same k) ∙ sym (at_key-number k ns)))

-- a number is among placed ones where it is one of them, or was there before
pub among-placed_each : (k : ℕ) (before ns : List ℕ) → is_among (placed_each (λ n. n) before ns) k ≡ (is_among ns k || is_among before k)
among-placed_each k before [] = refl
among-placed_each k before (n ∷ ns) =
    among-placed_each k (placed_by (λ m. m) n before) ns
    ∙ (ap (λ b. is_among ns k || b) (among-placed n k before) ∙ sym (or-second (n == k) (is_among ns k) (is_among before k)))
