-- How many elements pass a test: after a step of it, and in a list that has one element more.
use Rattle.std.proofs.Common.{◌≡◌, ◌≢◌, ℕ, suc, ◌+◌, ◌≤◌, ◌==◌, Bool, false, true, not, if◌then◌else◌, nat_lt}
use Rattle.std.proofs.Common.{List, [], ◌∷◌, length, Some, refl, sym, ap, ◌∙◌, arith, inl, inr}
use Rattle.std.specs.List.{AllByRecursion, filter}
use Rattle.std.specs.Option.{is_some}
use Rattle.std.proofs.lemmas.Bool.{cases_eq, cond_both}
use Rattle.cs_base.specs.Ascending.{IsDistinctBy, at_key, placed_by}
use Rattle.cs_base.proofs.Ascending.{at_key-first}
use Rattle.cs_base.proofs.Elements.{All-weaker}
use Rattle.cs_group.proofs.Members.{length-filter-le}

-- where each passes, none is kept that doesn't
pub none_kept : {T : Type 0} (p : T → Bool) (xs : List T) → AllByRecursion (λ x. p x ≡ true) xs → filter (λ x. not (p x)) xs ≡ []
none_kept p [] all = refl
none_kept p (x ∷ xs) all = rw all.0 (none_kept p xs all.1)

module _ {T : Type 0} (p : T → Bool) (x : T) (xs : List T) where
  -- a first element is one more at most
  length-filter-front : length (filter p (x ∷ xs)) ≤ suc (length (filter p xs))
  length-filter-front = cond_both (p x) (x ∷ filter p xs) (filter p xs) (λ ys. length ys ≤ suc (length (filter p xs))) (λ _. omega arith) (λ _. omega arith)

  -- and none less
  length-filter-behind : length (filter p xs) ≤ length (filter p (x ∷ xs))
  length-filter-behind = cond_both (p x) (x ∷ filter p xs) (filter p xs) (λ ys. length (filter p xs) ≤ length ys) (λ _. omega arith) (λ _. omega arith)

module _ {T : Type 0} (p q : T → Bool) where
  -- at most so many more pass where the first one doesn't differ
  pub filter-step : (n : ℕ) (x : T) (xs ys : List T) → (q x ≡ true → p x ≡ true) → length (filter q xs) ≤ n + length (filter p ys)
      → length (filter q (x ∷ xs)) ≤ n + length (filter p (x ∷ ys))
  filter-step n x xs ys weaker le = by_tests (q x) refl (p x) refl
    where
      by_tests : (b : Bool) → q x ≡ b → (c : Bool) → p x ≡ c → length (filter q (x ∷ xs)) ≤ n + length (filter p (x ∷ ys))
      by_tests true e true f = rw (e, f) (omega arith)
      by_tests true e false f = absurd (let passes = weaker e in cc)
      by_tests false e true f = rw (e, f) (omega arith)
      by_tests false e false f = rw (e, f) le

  -- no more pass a test that isn't weaker
  pub length-filter-weaker : (xs : List T) → AllByRecursion (λ x. q x ≡ true → p x ≡ true) xs → length (filter q xs) ≤ length (filter p xs)
  length-filter-weaker [] all = omega arith
  length-filter-weaker (x ∷ xs) all = omega (arith, filter-step 0 x xs xs all.0 (omega (arith, length-filter-weaker xs all.1)))

  -- of elements with distinct keys at most one more passes a test that is weaker at one key
  pub length-filter-but_one : (key : T → ℕ) (k : ℕ) (xs : List T) → IsDistinctBy key xs → ((x : T) → key x ≢ k → q x ≡ true → p x ≡ true)
      → length (filter q xs) ≤ suc (length (filter p xs))
  length-filter-but_one key k [] distinct weaker = omega arith
  length-filter-but_one key k (x ∷ xs) distinct weaker =
      let rest = length-filter-but_one key k xs distinct.1 weaker in
      elim (cases_eq (key x) k) [
        | inl same ↦
            let others = All-weaker (λ y. key x ≢ key y) (λ y. q y ≡ true → p y ≡ true) (λ y other. weaker y (λ e. other (same ∙ sym e))) xs distinct.0 in
            omega (arith, length-filter-front q x xs, length-filter-weaker xs others, length-filter-behind p x xs)
        | inr other ↦ omega (arith, filter-step 1 x xs xs (weaker x other) (omega (arith, rest)))
      ]

-- of a list and a placed number at most one more passes
pub length-filter-placed : (p : ℕ → Bool) (n : ℕ) (ns : List ℕ) → length (filter p (placed_by (λ m. m) n ns)) ≤ suc (length (filter p ns))
length-filter-placed p n [] = length-filter-le p (n ∷ [])
length-filter-placed p n (m ∷ ms) =
    let rest = length-filter-placed p n ms in
    let P : List ℕ → Type 0 = λ ns. length (filter p ns) ≤ suc (length (filter p (m ∷ ms))) in
    cond_both (nat_lt n m) (n ∷ m ∷ ms) (if n == m then n ∷ ms else m ∷ placed_by (λ k. k) n ms) P
    (λ _. length-filter-front p n (m ∷ ms))
    (λ _. cond_both (n == m) (n ∷ ms) (m ∷ placed_by (λ k. k) n ms) P
    (λ _. omega (arith, length-filter-front p n ms, length-filter-behind p m ms))
    (λ _. omega (arith, filter-step p p 1 m (placed_by (λ k. k) n ms) ms (λ e. e) (omega (arith, rest)))))

-- an element of a list is found by its key
pub find-itself : {T : Type 0} (key : T → ℕ) (xs : List T) → AllByRecursion (λ x. is_some (at_key key (key x) xs) ≡ true) xs
find-itself key [] = tt
find-itself {T} key (x ∷ xs) = (
  ap (λ o. is_some o) (at_key-first key x xs),
  All-weaker (λ y. is_some (at_key key (key y) xs) ≡ true) (λ y. is_some (at_key key (key y) (x ∷ xs)) ≡ true) later xs (find-itself key xs),
)
  where
    later : (y : T) → is_some (at_key key (key y) xs) ≡ true → is_some (at_key key (key y) (x ∷ xs)) ≡ true
    later y found = cond_both (key x == key y) (Some x) (at_key key (key y) xs) (λ o. is_some o ≡ true) (λ _. refl) (λ _. found)
