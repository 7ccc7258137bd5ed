use Rattle.std.proofs.Common.{◌≡◌, take}
use Rattle.std.specs.List.{AllByRecursion}
use Rattle.cs_group.specs.Rows.{IsRow}
use Rattle.cs_group.proofs.row.RowList.from_slice.Given as goal

-- the list has the rows so far, each of which is allowed
abbrev pub invariant-loop-row : goal.invariant-loop-row
invariant-loop-row l = record {
  value : l.list ≡ take l.row-index l.rows;
  allowed : AllByRecursion IsRow (take l.row-index l.rows);
}
