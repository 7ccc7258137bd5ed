-- Ascending lists: each element is above the one before it, so nothing occurs twice.
use Rattle.std.specs.Prelude.{◌≡◌, ◌≢◌, ℕ, ◌<◌, ◌≤◌, List, [], ◌∷◌, length, slice_index_or}
use Rattle.std.specs.Prelude.{nat_lt, if◌then◌else◌, ◌==◌, Option}
use Rattle.std.specs.List.{AllByRecursion, find}

-- each key is above those before it
abbrev pub IsAscendingBy : {T : Type 0} → (T → ℕ) → List T → Type 0
IsAscendingBy key [] = Unit {0}
IsAscendingBy key (x ∷ xs) = AllByRecursion (λ y. key x < key y) xs × IsAscendingBy key xs

-- no two elements have the same key
abbrev pub IsDistinctBy : {T : Type 0} → (T → ℕ) → List T → Type 0
IsDistinctBy key [] = Unit {0}
IsDistinctBy key (x ∷ xs) = AllByRecursion (λ y. key x ≢ key y) xs × IsDistinctBy key xs

abbrev pub IsAscending : List ℕ → Type 0
IsAscending ns = IsAscendingBy (λ n. n) ns

-- the ascending list with the element in its place, instead of one with the same key
abbrev pub placed_by : {T : Type 0} → (T → ℕ) → T → List T → List T
placed_by key x [] = x ∷ []
placed_by key x (y ∷ ys) =
    if nat_lt (key x) (key y) then x ∷ y ∷ ys
    else (if key x == key y then x ∷ ys else y ∷ placed_by key x ys)

-- the elements with another key
abbrev pub without_key : {T : Type 0} → (T → ℕ) → ℕ → List T → List T
without_key key k [] = []
without_key key k (y ∷ ys) = if key y == k then without_key key k ys else y ∷ without_key key k ys

-- the element with the key
abbrev pub at_key : {T : Type 0} → (T → ℕ) → ℕ → List T → Option T
at_key key k xs = find (λ y. key y == k) xs

-- place i of the list holds the key
pub record IsAt {T : Type 0} (key : T → ℕ) (k : ℕ) (xs : List T) (i : ℕ) : Type 0 where
  pub in_range : i < length xs
  pub has_key : (d : T) → key (slice_index_or xs i d) ≡ k

-- place i is the gap for the key: smaller keys stand before it, and greater ones from it on
pub record IsGap {T : Type 0} (key : T → ℕ) (k : ℕ) (xs : List T) (i : ℕ) : Type 0 where
  pub in_range : i ≤ length xs
  pub smaller_before : (j : ℕ) (d : T) → j < i → key (slice_index_or xs j d) < k
  pub greater_after : (j : ℕ) (d : T) → i ≤ j → j < length xs → k < key (slice_index_or xs j d)

-- a list ascends by a key, and each of its elements is allowed
pub record IsOrderedBy {T : Type 0} (key : T → ℕ) (IsAllowed : T → Type 0) (xs : List T) : Type 0 where
  pub ascending : IsAscendingBy key xs
  pub allowed : AllByRecursion IsAllowed xs
