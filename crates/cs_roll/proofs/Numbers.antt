-- How a sum of whole numbers lies between their bounds.
use Rattle.std.proofs.Common.{◌≡◌, ℕ, ◌+◌, ◌<◌, ℤ, pos, ◌+ℤ◌, ◌*ℤ◌, ◌≤ℤ◌, List, [], ◌∷◌, length, map, subst, refl, arith}
use Rattle.std.specs.List.{fold, AllByRecursion}
use Rattle.std.proofs.lemmas.Int.{ints, fold-int_min_bounds, fold-int_max_bounds}
use Rattle.std.proofs.lemmas.List.{length-map}
use Rattle.std.proofs.lemmas.List.Elements.{recursion_from_All}
use Rattle.cs_base.specs.Bounds.{lowest, highest}
use Rattle.cs_base.specs.Points.{total}
use Rattle.cs_roll.specs.Summary.{IsBounded}

-- one more number that is at least `low`
one_more_low : (low n s : ℤ) (k : ℕ) → (pos k *ℤ low) ≤ℤ s → low ≤ℤ n → (pos (k + 1) *ℤ low) ≤ℤ (s +ℤ n)
one_more_low low n s k before here = omega (arith, ints)

-- one more number that is at most `high`
one_more_high : (high n s : ℤ) (k : ℕ) → s ≤ℤ (pos k *ℤ high) → n ≤ℤ high → (s +ℤ n) ≤ℤ (pos (k + 1) *ℤ high)
one_more_high high n s k before here = omega (arith, ints)

-- a sum of numbers that are at least `low`
total-at_least : (low : ℤ) (ns : List ℤ) (s : ℤ) (k size : ℕ) → size ≡ k + length ns → AllByRecursion (λ n. low ≤ℤ n) ns
    → (pos k *ℤ low) ≤ℤ s → (pos size *ℤ low) ≤ℤ fold ◌+ℤ◌ s ns
total-at_least low [] s k size e all before = (let same : size ≡ k = omega arith in rw same before)
total-at_least low (n ∷ ns) s k size e all before =
    total-at_least low ns (s +ℤ n) (k + 1) size (omega arith) all.1 (one_more_low low n s k before all.0)

-- a sum of numbers that are at most `high`
total-at_most : (high : ℤ) (ns : List ℤ) (s : ℤ) (k size : ℕ) → size ≡ k + length ns → AllByRecursion (λ n. n ≤ℤ high) ns
    → s ≤ℤ (pos k *ℤ high) → fold ◌+ℤ◌ s ns ≤ℤ (pos size *ℤ high)
total-at_most high [] s k size e all before = (let same : size ≡ k = omega arith in rw same before)
total-at_most high (n ∷ ns) s k size e all before =
    total-at_most high ns (s +ℤ n) (k + 1) size (omega arith) all.1 (one_more_high high n s k before all.0)

-- the sum of some numbers lies between as many times the lowest, and as many times the highest
IsBounded-numbers : (ns : List ℤ) → 0 < length ns → IsBounded (length ns) (total ns) (lowest ns) (highest ns)
IsBounded-numbers [] some = absurd (omega arith)
IsBounded-numbers (n ∷ ns) some =
    let low = lowest (n ∷ ns) in
    let high = highest (n ∷ ns) in
    let above = fold-int_min_bounds n ns low refl in
    let below = fold-int_max_bounds n ns high refl in
    let size = length (n ∷ ns) in
    record {
      ordered = omega (arith, ints, above.0, below.0);
      at_least = total-at_least low (n ∷ ns) (pos 0) 0 size (omega arith)
          (above.0, recursion_from_All (λ m. low ≤ℤ m) ns above.1) (omega (arith, ints));
      at_most = total-at_most high (n ∷ ns) (pos 0) 0 size (omega arith)
          (below.0, recursion_from_All (λ m. m ≤ℤ high) ns below.1) (omega (arith, ints));
    }

-- the same of the numbers that are read off some elements
pub IsBounded-read : {T : Type 0} (f : T → ℤ) (ts : List T) → 0 < length ts
    → IsBounded (length ts) (total (map f ts)) (lowest (map f ts)) (highest (map f ts))
IsBounded-read {T} f ts some =
    let P : ℕ → Type 0 = λ size. IsBounded size (total (map f ts)) (lowest (map f ts)) (highest (map f ts)) in
    subst P (length-map ts f) (IsBounded-numbers (map f ts) (omega (arith, length-map ts f)))
