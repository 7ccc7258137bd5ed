use Rattle.cs_group.proofs.table.Table.copy.Goals as goal

-- the copies are the same
pub invariant_of-result : goal.invariant_of-result
invariant_of-result c = rw (c.in_ok-rows.ensures, c.in_ok-sums.ensures, c.in_ok-index.ensures) c.self.invariant
