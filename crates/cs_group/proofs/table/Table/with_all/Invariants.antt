use Rattle.std.proofs.Common.{◌≡◌, ◌+◌, ◌≤◌, length, take}
use Rattle.std.specs.List.{fold}
use Rattle.cs_group.specs.Table.{with_row}
use Rattle.cs_group.proofs.table.Table.with_all.Given as goal

-- the table with the rows so far, which are at most so many more
abbrev pub invariant-loop-row : goal.invariant-loop-row
invariant-loop-row l = record {
  value : l.table ≡ fold with_row l.self (take l.row-index l.rows);
  few : length l.table ≤ length l.self + l.row-index;
}
