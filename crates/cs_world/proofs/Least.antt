-- The least number that passes a test.
use Rattle.std.proofs.Common.{◌≡◌, ◌∙◌, ℕ, zero, suc, ◌+◌, ◌<◌, ◌≤◌, ◌&&◌, Bool, true, false, cond, List, [], ◌∷◌, Option, Some, None}
use Rattle.std.proofs.Common.{inl, inr, refl, sym, ap, arith, subst}
use Rattle.std.proofs.lemmas.Bool.{cases_lt, false≢true}
use Rattle.std.proofs.lemmas.Iterator.Adapters.{position_from-zero}
use Rattle.std.specs.List.{filter, find, position, position_from, range_with_len, slice_get}
use Rattle.std.specs.Option.{option_map, option_map_or}

-- a number is the least that passes the test; or none does
abbrev pub IsLeast : (ℕ → Bool) → Option ℕ → Type 0
IsLeast test None = (n : ℕ) → test n ≡ false
IsLeast test (Some m) = (test m ≡ true) × ((n : ℕ) → n < m → test n ≡ false)

-- there is one alone
pub least-one : (test : ℕ → Bool) (a b : Option ℕ) → IsLeast test a → IsLeast test b → a ≡ b
least-one test None None none other = refl
least-one test None (Some n) none other = absurd (false≢true (sym (none n) ∙ other.0))
least-one test (Some m) None is none = absurd (false≢true (sym (none m) ∙ is.0))
least-one test (Some m) (Some n) is other = elim (cases_lt m n) [
  | inl below ↦ absurd (false≢true (sym (other.1 m below) ∙ is.0))
  | inr behind ↦ elim (cases_lt n m) [
    | inl above ↦ absurd (false≢true (sym (is.1 n above) ∙ other.0))
    | inr before ↦ (let same : m ≡ n = omega (arith, behind, before) in ap (λ k. Some k) same)
  ]
]

-- tests that agree have the same one
pub least-same : (p q : ℕ → Bool) → ((n : ℕ) → p n ≡ q n) → (o : Option ℕ) → IsLeast p o → IsLeast q o
least-same p q same None none = λ n. sym (same n) ∙ none n
least-same p q same (Some m) is = (sym (same m) ∙ is.0, λ n below. sym (same n) ∙ is.1 n below)

-- of numbers in a row it is the first that passes, where none before or behind them does
pub least-in_row : (test : ℕ → Bool) (from count : ℕ) → ((n : ℕ) → n < from → test n ≡ false)
    → ((n : ℕ) → from + count ≤ n → test n ≡ false) → IsLeast test (find test (range_with_len from count))
least-in_row test from zero before behind = λ n. elim (cases_lt n from) [
  | inl below ↦ before n below
  | inr above ↦ behind n (omega (arith, above))
]
least-in_row test from (suc count) before behind =
    go (λ none. least-in_row test (from + 1) count none (λ n above. behind n (omega (arith, above)))) (test from) refl
  where
    go : (((n : ℕ) → n < from + 1 → test n ≡ false) → IsLeast test (find test (range_with_len (from + 1) count)))
        → (b : Bool) → test from ≡ b → IsLeast test (cond b (Some from) (find test (range_with_len (from + 1) count)))
    go rest true is = (is, before)
    go rest false other = rest (λ n below. elim (cases_lt n from) [
      | inl less ↦ before n less
      | inr not_less ↦ (let here : n ≡ from = omega (arith, below, not_less) in ap test here ∙ other)
    ])

-- a test that 0 doesn't pass, and that goes on as another does, has one more than the least of that
pub least-behind : (p q : ℕ → Bool) → q 0 ≡ false → ((n : ℕ) → q (suc n) ≡ p n) → (o : Option ℕ) → IsLeast p o → IsLeast q (option_map suc o)
least-behind p q first behind None none = go
  where
    go : (n : ℕ) → q n ≡ false
    go zero = first
    go (suc n) = behind n ∙ none n
least-behind p q first behind (Some m) is = (behind m ∙ is.0, go)
  where
    go : (n : ℕ) → n < suc m → q n ≡ false
    go zero below = first
    go (suc n) below = behind n ∙ is.1 n (omega (arith, below))

-- the place of the first that passes is the least of one that does
pub least-place : {X : Type 0} (test : X → Bool) (xs : List X) → IsLeast (λ n. option_map_or test (slice_get xs n) false) (position test xs)
least-place {X = X} test xs =
    subst (IsLeast (λ n. option_map_or test (slice_get xs n) false)) (sym (position_from-zero test xs)) (from_zero xs)
  where
    more : (i : ℕ) (xs : List X) → position_from test (i + 1) xs ≡ option_map suc (position_from test i xs)
    more i [] = refl
    more i (x ∷ xs) = go (more (i + 1) xs) (test x)
      where
        go : position_from test (i + 1 + 1) xs ≡ option_map suc (position_from test (i + 1) xs) → (b : Bool)
            → cond b (Some (i + 1)) (position_from test (i + 1 + 1) xs) ≡ option_map suc (cond b (Some i) (position_from test (i + 1) xs))
        go rest true = (let one : i + 1 ≡ suc i = omega arith in ap Some one)
        go rest false = rest

    from_zero : (xs : List X) → IsLeast (λ n. option_map_or test (slice_get xs n) false) (position_from test 0 xs)
    from_zero [] = λ n. refl
    from_zero (x ∷ xs) = go (from_zero xs) (test x) refl
      where
        at : ℕ → Bool
        at n = option_map_or test (slice_get (x ∷ xs) n) false

        go : IsLeast (λ n. option_map_or test (slice_get xs n) false) (position_from test 0 xs) → (b : Bool) → test x ≡ b
            → IsLeast at (cond b (Some 0) (position_from test (0 + 1) xs))
        go rest true is = (is, λ n below. absurd (omega (arith, below)))
        go rest false other =
            subst (IsLeast at) (sym (more 0 xs))
            (least-behind (λ n. option_map_or test (slice_get xs n) false) at other (λ n. refl) (position_from test 0 xs) rest)

-- ---- what is found among those that pass another test

-- is the first that passes both
pub find-filter : {X : Type 0} (p q : X → Bool) (xs : List X) → find p (filter q xs) ≡ find (λ x. q x && p x) xs
find-filter p q [] = refl
find-filter p q (x ∷ xs) = go (find-filter p q xs) (q x)
  where
    go : find p (filter q xs) ≡ find (λ x. q x && p x) xs → (b : Bool)
        → find p (cond b (x ∷ filter q xs) (filter q xs)) ≡ cond (b && p x) (Some x) (find (λ x. q x && p x) xs)
    go rest true = ap (cond (p x) (Some x)) rest
    go rest false = rest

-- and the first of them is the first that passes
pub first-filter : {X : Type 0} (q : X → Bool) (xs : List X) → slice_get (filter q xs) 0 ≡ find q xs
first-filter q [] = refl
first-filter q (x ∷ xs) = go (first-filter q xs) (q x)
  where
    go : slice_get (filter q xs) 0 ≡ find q xs → (b : Bool)
        → slice_get (cond b (x ∷ filter q xs) (filter q xs)) 0 ≡ cond b (Some x) (find q xs)
    go rest true = refl
    go rest false = rest
