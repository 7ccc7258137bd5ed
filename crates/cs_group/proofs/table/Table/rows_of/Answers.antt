use Rattle.cs_group.proofs.Ranks.{rows_in-ranks, short-ids}
use Rattle.cs_group.proofs.table.Table.rows_of.Goals as goal

-- the rows of a region are those of its ranks
pub returns : goal.returns
returns c =
    let was = c.self.inside in
    let ranks = rows_in-ranks c.args.region was.rows (short-ids was.rows c.self.invariant.allowed) in
    rw (c.first_rank.ensures, c.last_rank.ensures, ranks, c.self.view_is) at c.from_to.ensures
