-- What tests over a list tell: that none passes, that each does, that one is found.
use Rattle.std.proofs.Common.{◌≡◌, ℕ, zero, suc, ◌<◌, ◌≤◌, Bool, true, false, List, [], ◌∷◌, length, get_or}
use Rattle.std.proofs.Common.{Some}
use Rattle.std.proofs.Common.{refl, sym, ◌∙◌, arith}
use Rattle.std.specs.List.{AllByRecursion, filter, find, list_all, list_any}
use Rattle.cs_group.proofs.Members.{length-filter-le}
use Rattle.std.proofs.lemmas.Bool.{or_parts, or_from, and_from, or_left, or_right, cond_both}

module _ {T : Type 0} (p : T → Bool) where
  -- where none passes, each fails
  pub each_fails : (xs : List T) → list_any p xs ≡ false → AllByRecursion (λ x. p x ≡ false) xs
  each_fails [] none = tt
  each_fails (x ∷ xs) none = (let parts = or_parts (p x) (list_any p xs) none in (parts.0, each_fails xs parts.1))

  -- and the other way round
  pub none_passes : (xs : List T) → AllByRecursion (λ x. p x ≡ false) xs → list_any p xs ≡ false
  none_passes [] each = refl
  none_passes (x ∷ xs) each = or_from (p x) (list_any p xs) each.0 (none_passes xs each.1)

  -- where each passes, all do
  pub all_pass : (xs : List T) → AllByRecursion (λ x. p x ≡ true) xs → list_all p xs ≡ true
  all_pass [] each = refl
  all_pass (x ∷ xs) each = and_from (p x) (list_all p xs) each.0 (all_pass xs each.1)

  -- what is found passes, so one passes
  pub any-found : (xs : List T) (x : T) → find p xs ≡ Some x → list_any p xs ≡ true
  any-found [] x found = absurd (cc)
  any-found (y ∷ ys) x found = go (p y) refl (any-found ys x)
    where
      go : (b : Bool) → p y ≡ b → (find p ys ≡ Some x → list_any p ys ≡ true) → list_any p (y ∷ ys) ≡ true
      go true e later = or_left (p y) (list_any p ys) e
      go false e later = or_right (p y) (list_any p ys) (later (let rest : find p (y ∷ ys) ≡ find p ys = rw e refl in sym rest ∙ found))

  -- one that passes at a place is found, or one before it
  pub found-at : (xs : List T) (k : ℕ) (d : T) → k < length xs → p (get_or xs k d) ≡ true → (x : T) × (find p xs ≡ Some x)
  found-at [] k d lt passes = absurd (omega arith)
  found-at (y ∷ ys) zero d lt passes = (y, (rw passes refl))
  found-at (y ∷ ys) (suc k) d lt passes = (let later = found-at ys k d (omega arith) passes in go (p y) refl later)
    where
      go : (b : Bool) → p y ≡ b → (x : T) × (find p ys ≡ Some x) → (x : T) × (find p (y ∷ ys) ≡ Some x)
      go true e later = (y, (rw e refl))
      go false e later = (later.0, (rw e later.1))

  -- where one fails the test, a filter keeps fewer
  pub length-filter-lt : (q : T → Bool) → ((x : T) → q x ≡ true → p x ≡ false) → (xs : List T) → list_any q xs ≡ true
      → suc (length (filter p xs)) ≤ length xs
  length-filter-lt q fails [] some = absurd (cc)
  length-filter-lt q fails (x ∷ xs) some = go (q x) refl (length-filter-lt q fails xs) (length-filter-le p xs)
    where
      go : (b : Bool) → q x ≡ b → (list_any q xs ≡ true → suc (length (filter p xs)) ≤ length xs) → length (filter p xs) ≤ length xs
          → suc (length (filter p (x ∷ xs))) ≤ suc (length xs)
      go true e later most =
          let gone : p x ≡ false = fails x e in
          let kept : filter p (x ∷ xs) ≡ filter p xs = rw gone refl in
          rw kept (omega (arith, most))
      go false e later most =
          let rest : list_any q xs ≡ true = (let step : list_any q (x ∷ xs) ≡ list_any q xs = rw e refl in sym step ∙ some) in
          let fewer = later rest in
          cond_both (p x) (x ∷ filter p xs) (filter p xs) (λ ys. suc (length ys) ≤ suc (length xs))
          (λ here. omega (arith, fewer)) (λ here. omega (arith, most))

  -- one that passes both tests is kept
  pub any-filter : (q : T → Bool) (xs : List T) → ((x : T) → q x ≡ true → p x ≡ true) → list_any q xs ≡ true → list_any q (filter p xs) ≡ true
  any-filter q [] keeps some = some
  any-filter q (x ∷ xs) keeps some = go (q x) refl (any-filter q xs keeps)
    where
      kept : p x ≡ true → filter p (x ∷ xs) ≡ x ∷ filter p xs
      kept e = rw e refl

      go : (b : Bool) → q x ≡ b → (list_any q xs ≡ true → list_any q (filter p xs) ≡ true) → list_any q (filter p (x ∷ xs)) ≡ true
      go true e later = rw (kept (keeps x e)) (or_left (q x) (list_any q (filter p xs)) e)
      go false e later =
          let rest : list_any q xs ≡ true = (let step : list_any q (x ∷ xs) ≡ list_any q xs = rw e refl in sym step ∙ some) in
          cond_both (p x) (x ∷ filter p xs) (filter p xs) (λ ys. list_any q ys ≡ true)
          (λ here. or_right (q x) (list_any q (filter p xs)) (later rest)) (λ here. later rest)
