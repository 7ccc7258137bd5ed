-- A count, and so many elements one behind the other, where what came before decides what may follow.
use Rattle.std.specs.Prelude.{ℕ, zero, suc, ◌+◌, ◌≤◌, List, [], ◌∷◌, ◌++◌, length, Ok}
use Rattle.std.specs.List.{flat_map, AllByRecursion}
use Rattle.cs_base.specs.Ascending.{IsAscendingBy}
use Rattle.cs_fields.specs.Reading.{Reader, ◌>>=◌}
use Rattle.cs_fields.specs.Numbers.{number_in, number_bytes}

-- so many elements: `element` reads one by what came before, and `after` adds it to that
unfoldable pub elements_at : {S T : Type 0} → (S → Reader T) → (S → T → S) → ℕ → S → Reader (List T)
elements_at element after zero before bytes at = Ok ([], at)
elements_at element after (suc n) before bytes at = do
  first ← element before bytes at
  others ← elements_at element after n (after before first.0) bytes first.1
  Ok (first.0 ∷ others.0, others.1)

-- a count of so many bytes, from the least to the most, and so many elements
unfoldable pub counted_at : {S T : Type 0} → (width least most : ℕ) → (S → Reader T) → (S → T → S) → S
    → Reader (List T)
counted_at width least most element after before bytes at = do
  count ← number_in width least most bytes at
  elements_at element after count.0 before bytes count.1

-- and its spelling
abbrev pub counted : {T : Type 0} → ℕ → (T → List ℕ) → List T → List ℕ
counted width spell xs = number_bytes width (length xs) ++ flat_map spell xs

-- the sizes of its fields
abbrev pub counted_sizes : {T : Type 0} → ℕ → (T → List ℕ) → List T → List ℕ
counted_sizes width sizes xs = width ∷ flat_map sizes xs

-- in ascending lists an element's key has to be above the one before: this is the least that may follow
abbrev pub above : {T : Type 0} → (T → ℕ) → ℕ → T → ℕ
above key least x = key x + 1

-- from the least to the most elements, each of which is allowed, ascending by key
pub record IsListed {T : Type 0} (least most : ℕ) (Allowed : T → Type 0) (key : T → ℕ) (xs : List T) : Type 0 where
  pub enough : least ≤ length xs
  pub few : length xs ≤ most
  pub allowed : AllByRecursion Allowed xs
  pub ascending : IsAscendingBy key xs
