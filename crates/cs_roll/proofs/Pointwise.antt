-- Two lists that are compared one by one.
use Rattle.std.proofs.Common.{◌≡◌, ℕ, suc, zero, ◌<◌, ◌&&◌, Bool, true, false, List, [], ◌∷◌, length, get_or, refl, ap, arith}
use Rattle.std.specs.Cmp.Lexicographic.{pointwise}

module _ {X : Type 0} (p : X → X → Bool) where
  -- lists that differ at a place aren't the same
  pub pointwise-at : (xs ys : List X) (i : ℕ) (d e : X) → i < length xs → i < length ys → p (get_or xs i d) (get_or ys i e) ≡ false
      → pointwise p xs ys ≡ false
  pointwise-at [] ys i d e lt under differs = absurd (omega arith)
  pointwise-at (x ∷ xs) [] i d e lt under differs = absurd (omega arith)
  pointwise-at (x ∷ xs) (y ∷ ys) zero d e lt under differs = rw differs refl
  pointwise-at (x ∷ xs) (y ∷ ys) (suc i) d e lt under differs =
      let rest : pointwise p xs ys ≡ false = pointwise-at xs ys i d e (omega arith) (omega arith) differs in
      elim (p x y) as (λ b. (b && pointwise p xs ys) ≡ false) [ true ↦ rest | false ↦ refl ]

  -- and those that are the same at each place are
  pub pointwise-all : (xs ys : List X) → length xs ≡ length ys
      → ((i : ℕ) (d e : X) → i < length xs → p (get_or xs i d) (get_or ys i e) ≡ true) → pointwise p xs ys ≡ true
  pointwise-all [] [] long each = refl
  pointwise-all [] (y ∷ ys) long each = absurd (omega (arith, long))
  pointwise-all (x ∷ xs) [] long each = absurd (omega (arith, long))
  pointwise-all (x ∷ xs) (y ∷ ys) long each =
      let first : p x y ≡ true = each 0 x y (omega arith) in
      let rest : pointwise p xs ys ≡ true = pointwise-all xs ys (omega (arith, long)) (λ i d e lt. each (suc i) d e (omega arith)) in
      rw first rest
