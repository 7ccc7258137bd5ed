use Rattle.cs_group.proofs.Tables.{IsTable-none}
use Rattle.cs_group.proofs.table.Table.new.Goals as goal

-- an empty table is one
pub invariant_of-result : goal.invariant_of-result
invariant_of-result c = rw (c.new-rows.ensures, c.new-sums.ensures, c.new-index.ensures) IsTable-none
