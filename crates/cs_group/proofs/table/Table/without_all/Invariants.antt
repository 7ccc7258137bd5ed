use Rattle.std.proofs.Common.{◌≡◌, take}
use Rattle.std.specs.List.{fold}
use Rattle.cs_group.specs.Table.{without_row}
use Rattle.cs_group.proofs.table.Table.without_all.Given as goal

-- the table without the rows so far
abbrev pub invariant-loop-row : goal.invariant-loop-row
invariant-loop-row l = l.table ≡ fold without_row l.self (take l.row-index l.rows)
