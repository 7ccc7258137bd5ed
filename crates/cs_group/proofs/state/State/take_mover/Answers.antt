use Rattle.std.proofs.Common.{◌≡◌, ◌≤◌, Some, length, arith, rules}
use Rattle.cs_base.specs.Limits.{most_summed}
use Rattle.cs_group.specs.Rows.{row_of}
use Rattle.cs_group.proofs.Edits.{length-without-lt, row_of-id}
use Rattle.cs_group.proofs.state.State.take_mover.Goals as goal

-- the mover's own row leaves room
pub with-requires : goal.with-requires
with-requires c =
    let was = c.self.inside in
    let found : row_of c.args.id was.table ≡ Some c.in-Some.row = search rules in
    let same = row_of-id c.args.id was.table c.in-Some.row found in
    let few : length was.table ≤ most_summed = search rules in
    rw same (omega (arith, few, length-without-lt c.args.id was.table c.in-Some.row found))

-- and gives way
pub returns : goal.returns
returns c =
    let was = c.self.inside in
    let found : row_of c.args.id was.table ≡ Some c.in-Some.row = search rules in
    let same = row_of-id c.args.id was.table c.in-Some.row found in
    rw (← c.self.view_is, found) (search rules)
