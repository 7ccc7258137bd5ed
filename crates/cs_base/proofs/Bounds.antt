-- Sums and bounds of whole numbers read off a list: a loop's step, and what is near 0.
use Rattle.std.proofs.Common.{◌≡◌, ℕ, ◌+◌, ◌-◌, ◌<◌, ◌≤◌, cond, ℤ, List, [], ◌∷◌, length, get_or, take, drop, map}
use Rattle.std.proofs.Common.{true, false, ap, sym, subst, ◌∙◌, arith, int_lt}
use Rattle.std.specs.Int.{int_min, int_max}
use Rattle.std.specs.List.{fold, AllByRecursion}
use Rattle.std.proofs.lemmas.List.{take_all}
use Rattle.std.proofs.lemmas.List.Folds.{fold-map}
use Rattle.std.proofs.lemmas.List.Sums.{fold_more}
use Rattle.std.proofs.lemmas.List.Elements.{All-more, All-from_recursion, recursion_from_All}
use Rattle.cs_base.specs.Axes.{IsNear}
use Rattle.cs_base.specs.Bounds.{lowest, highest}

-- what holds of the first elements and of the next one holds of them all
pub AllByRecursion-next : {T : Type 0} (P : T → Type 0) (xs : List T) (i : ℕ) (x : T) → i < length xs → x ≡ get_or xs i x
    → AllByRecursion P (take i xs) → P x → AllByRecursion P (take (i + 1) xs)
AllByRecursion-next P xs i x lt is before here =
    recursion_from_All P _ (All-more P xs i x lt (All-from_recursion P _ before) (subst P is here))

-- a fold by a function of the fold so far and the next number takes in one more element
pub fold_next : {T : Type 0} (f : T → ℤ) (g : ℤ → ℤ → ℤ) (start so_far : ℤ) (xs : List T) (i : ℕ) (x : T) → i < length xs → x ≡ get_or xs i x
    → so_far ≡ fold (λ s t. g s (f t)) start (take i xs) → g so_far (f x) ≡ fold (λ s t. g s (f t)) start (take (i + 1) xs)
fold_next f g start so_far xs i x lt is e = (let next = fold_more (λ s t. g s (f t)) start xs i x lt in cc)

-- after the last element the fold is that of all the numbers
pub fold_all : {T : Type 0} (f : T → ℤ) (g : ℤ → ℤ → ℤ) (start r : ℤ) (ts : List T) (i : ℕ) → length ts ≤ i
    → r ≡ fold (λ s t. g s (f t)) start (take i ts) → r ≡ fold g start (map f ts)
fold_all f g start r ts i le e = e ∙ (ap (fold (λ s t. g s (f t)) start) (take_all i ts le) ∙ sym (fold-map g f start ts))

module _ {T : Type 0} (f : T → ℤ) where
  -- a fold over `&xs[1..]`, from the first element on
  fold_rest : (g : ℤ → ℤ → ℤ) (first y : T) (ys : List T) (i : ℕ) (start r : ℤ) → first ≡ y
      → length (take (length (y ∷ ys) - 1) ys) ≤ i → start ≡ f first
      → r ≡ fold (λ s t. g s (f t)) start (take i (take (length (y ∷ ys) - 1) ys)) → r ≡ fold g (f y) (map f ys)
  fold_rest g first y ys i start r is le begins e =
      let rest : take (length (y ∷ ys) - 1) ys ≡ ys = take_all (length (y ∷ ys) - 1) ys (omega arith) in
      rw (← (begins ∙ ap f is)) (fold_all f g start r ys i (rw rest at le) (rw rest at e))

  -- the lowest of some numbers, by a loop over the later ones
  pub lowest_rest : (first : T) (xs : List T) (i : ℕ) (start r : ℤ) → 0 < length xs → first ≡ get_or xs 0 first
      → length (take (length xs - 1) (drop 1 xs)) ≤ i → start ≡ f first
      → r ≡ fold (λ s t. int_min s (f t)) start (take i (take (length xs - 1) (drop 1 xs))) → r ≡ lowest (map f xs)
  lowest_rest first [] i start r some is le begins e = absurd (omega arith)
  lowest_rest first (y ∷ ys) i start r some is le begins e = fold_rest int_min first y ys i start r is le begins e

  -- the highest of some numbers, by a loop over the later ones
  pub highest_rest : (first : T) (xs : List T) (i : ℕ) (start r : ℤ) → 0 < length xs → first ≡ get_or xs 0 first
      → length (take (length xs - 1) (drop 1 xs)) ≤ i → start ≡ f first
      → r ≡ fold (λ s t. int_max s (f t)) start (take i (take (length xs - 1) (drop 1 xs))) → r ≡ highest (map f xs)
  highest_rest first [] i start r some is le begins e = absurd (omega arith)
  highest_rest first (y ∷ ys) i start r some is le begins e = fold_rest int_max first y ys i start r is le begins e

-- ---- the bounds of numbers near 0
-- the lower of two numbers near 0 is near 0
pub IsNear-min : (bound : ℕ) (a b : ℤ) → IsNear bound a → IsNear bound b → IsNear bound (int_min a b)
IsNear-min bound a b near_a near_b =
    elim (int_lt b a) as (λ less. IsNear bound (cond less b a)) [ true ↦ near_b | false ↦ near_a ]

-- and so is the higher
pub IsNear-max : (bound : ℕ) (a b : ℤ) → IsNear bound a → IsNear bound b → IsNear bound (int_max a b)
IsNear-max bound a b near_a near_b =
    elim (int_lt b a) as (λ less. IsNear bound (cond less a b)) [ true ↦ near_a | false ↦ near_b ]

module _ {T : Type 0} (f : T → ℤ) (bound : ℕ) where
  -- the lowest of numbers near 0 is near 0
  IsNear-fold_min : (a : ℤ) (ts : List T) → IsNear bound a → AllByRecursion (λ t. IsNear bound (f t)) ts
      → IsNear bound (fold int_min a (map f ts))
  IsNear-fold_min a [] here all = here
  IsNear-fold_min a (t ∷ ts) here all =
      IsNear-fold_min (int_min a (f t)) ts (IsNear-min bound a (f t) here all.0) all.1

  -- the highest of numbers near 0 is near 0
  IsNear-fold_max : (a : ℤ) (ts : List T) → IsNear bound a → AllByRecursion (λ t. IsNear bound (f t)) ts
      → IsNear bound (fold int_max a (map f ts))
  IsNear-fold_max a [] here all = here
  IsNear-fold_max a (t ∷ ts) here all =
      IsNear-fold_max (int_max a (f t)) ts (IsNear-max bound a (f t) here all.0) all.1

  -- of some numbers near 0 the lowest is near 0
  pub IsNear-lowest : (ts : List T) → 0 < length ts → AllByRecursion (λ t. IsNear bound (f t)) ts → IsNear bound (lowest (map f ts))
  IsNear-lowest [] some all = absurd (omega arith)
  IsNear-lowest (t ∷ ts) some all = IsNear-fold_min (f t) ts all.0 all.1

  -- and so is the highest
  pub IsNear-highest : (ts : List T) → 0 < length ts → AllByRecursion (λ t. IsNear bound (f t)) ts → IsNear bound (highest (map f ts))
  IsNear-highest [] some all = absurd (omega arith)
  IsNear-highest (t ∷ ts) some all = IsNear-fold_max (f t) ts all.0 all.1
