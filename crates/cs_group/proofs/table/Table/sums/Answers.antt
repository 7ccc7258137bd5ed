use Rattle.cs_group.proofs.table.Table.sums.Goals as goal

-- the kept sums are those of the rows now
pub returns : goal.returns
returns c = rw (c.self.invariant.sums_now, c.self.view_is) at c.totals_of.ensures
