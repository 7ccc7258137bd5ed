-- Loops that pass the elements of a list one by one, some of which end at the first element of a kind.
use Rattle.std.proofs.Common.{◌≡◌, ℕ, suc, zero, ◌+◌, ◌<◌, Bool, true, false, cond, List, [], ◌∷◌, ◌++◌, length, get_or, take, Option, Some, None, refl}
use Rattle.std.proofs.Common.{subst, arith}
use Rattle.std.specs.List.{find, filter, filter_map, slice_get}
use Rattle.std.proofs.lemmas.List.{take_more}
use Rattle.std.proofs.lemmas.List.Elements.{filter_map-append, filter_more}
use Rattle.std.proofs.lemmas.List.Folds.{find-append}
use Rattle.cs_base.specs.Ascending.{IsAscendingBy}
use Rattle.cs_base.proofs.Ascending.{IsAscendingBy-filter, IsAscendingBy-take}
use Rattle.cs_base.proofs.Elements.{All-front}

module _ {X : Type 0} where
  -- none so far passes the test, and neither does the next one
  pub find_none_more : (p : X → Bool) (xs : List X) (i : ℕ) (d : X) → i < length xs → find p (take i xs) ≡ None → p (get_or xs i d) ≡ false
      → find p (take (i + 1) xs) ≡ None
  find_none_more p xs i d lt none fails = rw (take_more xs i d lt, find-append p (take i xs) (get_or xs i d ∷ []), none, fails) refl

  -- none so far passes the test, and the next one does
  pub find_here : (p : X → Bool) (xs : List X) (i : ℕ) (d : X) → i < length xs → find p (take i xs) ≡ None → p (get_or xs i d) ≡ true
      → find p xs ≡ Some (get_or xs i d)
  find_here p [] i d lt none passes = absurd (omega arith)
  find_here p (x ∷ xs) zero d lt none passes = rw passes refl
  find_here p (x ∷ xs) (suc i) d lt none passes = let rest = find_here p xs i d (omega arith) in grind arith

  -- none so far gives anything, and neither does the next one
  pub filter_map_none_more : {Y : Type 0} (f : X → Option Y) (xs : List X) (i : ℕ) (d : X) → i < length xs → filter_map f (take i xs) ≡ []
      → f (get_or xs i d) ≡ None → filter_map f (take (i + 1) xs) ≡ []
  filter_map_none_more f xs i d lt none gives = rw (take_more xs i d lt, filter_map-append f (take i xs) (get_or xs i d ∷ []), none, gives) refl

  -- none so far gives anything, and the next one does
  pub filter_map_here : {Y : Type 0} (f : X → Option Y) (xs : List X) (i : ℕ) (d : X) (y : Y) → i < length xs → filter_map f (take i xs) ≡ []
      → f (get_or xs i d) ≡ Some y → slice_get (filter_map f xs) 0 ≡ Some y
  filter_map_here f [] i d y lt none gives = absurd (omega arith)
  filter_map_here f (x ∷ xs) zero d y lt none gives = rw gives refl
  filter_map_here f (x ∷ xs) (suc i) d y lt none gives = let rest = filter_map_here f xs i d y (omega arith) in grind arith

  module _ (key : X → ℕ) where
    -- one that is kept ascends behind those that were kept
    pub IsAscendingBy-kept : (p : X → Bool) (xs : List X) (i : ℕ) (d : X) → i < length xs → p (get_or xs i d) ≡ true → IsAscendingBy key xs
        → IsAscendingBy key (filter p (take i xs) ++ get_or xs i d ∷ [])
    IsAscendingBy-kept p xs i d lt passes up =
        let more : filter p (take (i + 1) xs) ≡ filter p (take i xs) ++ cond (p (get_or xs i d)) (get_or xs i d ∷ []) [] = filter_more p xs i d lt in
        let kept : filter p (take (i + 1) xs) ≡ filter p (take i xs) ++ get_or xs i d ∷ [] = rw passes at more in
        subst (IsAscendingBy key) kept (IsAscendingBy-filter key p (take (i + 1) xs) (IsAscendingBy-take key (i + 1) xs up))

    -- the front of a list that ascends does so too
    pub IsAscendingBy-front : (xs ys : List X) → IsAscendingBy key (xs ++ ys) → IsAscendingBy key xs
    IsAscendingBy-front [] ys up = tt
    IsAscendingBy-front (x ∷ xs) ys up = (All-front (λ y. key x < key y) xs ys up.0, IsAscendingBy-front xs ys up.1)
