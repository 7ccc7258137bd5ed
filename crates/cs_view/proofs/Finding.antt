-- What a search finds, as a test.
use Rattle.std.proofs.Common.{◌≡◌, ℕ, Bool, true, false, List, [], ◌∷◌, Option, Some, None, Result, Ok, Err, IfOk, IfErr, Bor, refl, sym, ap, ◌∙◌}
use Rattle.std.proofs.Common.{◌==◌, subst, arith}
use Rattle.std.specs.List.{find, list_any}
use Rattle.std.specs.Option.{is_some, option_copied, option_map}
use Rattle.std.specs.Result.{is_ok}
use Rattle.std.proofs.lemmas.Option.{none-some, same_Some}
use Rattle.cs_base.specs.Ascending.{at_key, IsAscendingBy}
use Rattle.cs_roll.specs.Sight.{IsByRegion, at_region}
use Rattle.cs_base.proofs.Ascending.{IsAt, IsGap, find-at, find-gap}

-- what is found passes the test
pub find_passes : {X : Type 0} (p : X → Bool) (xs : List X) (x : X) → find p xs ≡ Some x → p x ≡ true
find_passes p [] x found = absurd (none-some x found)
find_passes {X} p (y ∷ ys) x found = by_test (find_passes p ys x) (p y) refl
  where
    by_test : (find p ys ≡ Some x → p x ≡ true) → (b : Bool) → p y ≡ b → p x ≡ true
    by_test later true e = let same : y ≡ x = same_Some y x (rw e at found) in subst (λ (z : X). p z ≡ true) same e
    by_test later false e = later (rw e at found)

-- something is found where an element passes the test
pub is_some-find : {X : Type 0} (p : X → Bool) (xs : List X) → is_some (find p xs) ≡ list_any p xs
is_some-find p [] = refl
is_some-find p (x ∷ xs) = let rest = is_some-find p xs in grind arith

-- what is changed is there where it was
pub is_some-map : {X Y : Type 0} (f : X → Y) (o : Option X) → is_some (option_map f o) ≡ is_some o
is_some-map f None = refl
is_some-map f (Some x) = refl

module _ {X : Type 0} (key : X → ℕ) where
  -- a place with the key is that of the element that is found
  found : (n : ℕ) (xs : List X) (i : ℕ) → IsAscendingBy key xs → IsAt key n xs i → true ≡ is_some (at_key key n xs)
  found n [] i up at = absurd (omega (arith, at.in_range))
  found n (x ∷ xs) i up at = ap is_some (sym (find-at key n (x ∷ xs) i x up at))

  -- a search ends at a place with the key exactly where an element has it
  pub is_ok-searched : (n : ℕ) (xs : List X) (r : Result ℕ ℕ) → IsAscendingBy key xs → IfOk r (IsAt key n xs) → IfErr r (IsGap key n xs)
      → is_ok r ≡ is_some (at_key key n xs)
  is_ok-searched n xs (Ok i) up at gap = found n xs i up at
  is_ok-searched n xs (Err i) up at gap = ap is_some (sym (find-gap key n xs i gap))

-- what is behind a reference is there where the reference is
pub is_some-copied : {X : Type 0} (o : Option (Bor X)) → is_some (option_copied o) ≡ is_some o
is_some-copied None = refl
is_some-copied (Some x) = refl

-- a region that a search finds is there
pub any-found : {X : Type 0} (n : ℕ) (pairs : List (ℕ × X)) (i : ℕ) → IsByRegion pairs → IsAt (λ (p : ℕ × X). p.0) n pairs i
    → list_any (λ (p : ℕ × X). p.0 == n) pairs ≡ true
any-found {X} n pairs i up at = sym (found (λ (p : ℕ × X). p.0) n pairs i up at ∙ is_some-find (λ (p : ℕ × X). p.0 == n) pairs)

-- and one for which there is a gap isn't
pub any-gap : {X : Type 0} (n : ℕ) (pairs : List (ℕ × X)) (i : ℕ) → IsGap (λ (p : ℕ × X). p.0) n pairs i
    → list_any (λ (p : ℕ × X). p.0 == n) pairs ≡ false
any-gap {X} n pairs i gap =
    sym (is_some-find (λ (p : ℕ × X). p.0 == n) pairs) ∙ ap is_some (find-gap (λ (p : ℕ × X). p.0) n pairs i gap)

-- a region is among the pairs where something stands beside it
pub any-there : {X : Type 0} (n : ℕ) (pairs : List (ℕ × X)) → list_any (λ (p : ℕ × X). p.0 == n) pairs ≡ is_some (at_region n pairs)
any-there {X} n pairs = sym (is_some-map (λ (p : ℕ × X). p.1) (find (λ (p : ℕ × X). p.0 == n) pairs) ∙ is_some-find (λ (p : ℕ × X). p.0 == n) pairs)
