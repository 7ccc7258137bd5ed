-- A cut undone: the rows of the upper region go back to the region that was cut.
use Rattle.std.specs.Prelude.{ℕ, ◌<◌, ◌==◌, List, Option, Some, None, if◌then◌else◌}
use Rattle.std.specs.List.{AllByRecursion}
use Rattle.cs_base.specs.declared.split.Cut.{Cut}
use Rattle.cs_group.specs.Rows.{moved_to}
use Rattle.cs_group.specs.declared.row.Row.{Row}

-- a row of the upper region goes back
abbrev pub rejoined_row : ℕ → ℕ → Row → Row
rejoined_row region upper row = if row.region == upper then moved_to region row else row

-- the region that the cut makes is new: each is below it
abbrev pub IsBelowCut : Option (ℕ × Cut) → List Row → Type 0
IsBelowCut None rows = Unit {0}
IsBelowCut (Some cut) rows = AllByRecursion (λ (r : Row). r.region < cut.1.upper) rows
