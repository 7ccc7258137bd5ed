use Rattle.cs_group.proofs.Edits.{gone-without}
use Rattle.cs_group.proofs.table.Table.with.Goals as goal

-- the id is gone
pub with_new-requires-clause-is_new : goal.with_new-requires-clause-is_new
with_new-requires-clause-is_new c = rw c.in_ok-others.ensures (gone-without c.args.row.now.member.id c.args.self.now)
