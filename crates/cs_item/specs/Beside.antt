-- A region, and what stands beside it.
use Rattle.std.specs.Prelude.{ℕ, List, ◌∷◌, ◌++◌, Ok}
use Rattle.cs_base.specs.Limits.{last_number}
use Rattle.cs_base.specs.Ranges.{IsFromTo}
use Rattle.cs_fields.specs.Fields.{id_bytes, region_from}
use Rattle.cs_fields.specs.Reading.{Reader, ◌>>=◌}

-- a region that is at least so much, and what is allowed beside it
abbrev pub IsBeside : {T : Type 0} → (T → Type 0) → ℕ → ℕ × T → Type 0
IsBeside Allowed least pair = IsFromTo least last_number pair.0 × Allowed pair.1

unfoldable pub beside_from : {T : Type 0} → Reader T → ℕ → Reader (ℕ × T)
beside_from read least bytes at = do
  region ← region_from least bytes at
  item ← read bytes region.1
  Ok ((region.0, item.0), item.1)

unfoldable pub beside_bytes : {T : Type 0} → (T → List ℕ) → ℕ × T → List ℕ
beside_bytes spell pair = id_bytes pair.0 ++ spell pair.1

-- the sizes of their fields
abbrev pub beside_sizes : {T : Type 0} → (T → List ℕ) → ℕ × T → List ℕ
beside_sizes sizes pair = 4 ∷ sizes pair.1
