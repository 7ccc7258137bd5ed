use Rattle.std.proofs.Common.{◌≡◌, true, [], refl, rules}
use Rattle.cs_group.specs.Group.{is_among}
use Rattle.cs_group.specs.Rows.{members_in, regions}
use Rattle.cs_slicer.proofs.Regions.{among-none, among-some}
use Rattle.cs_slicer.proofs.Steps.{some-from_test}
use Rattle.cs_slicer.proofs.part.kind_of_kept.Goals as goal

-- without members the region isn't there
pub returns-then-is_empty : goal.returns-then-is_empty
returns-then-is_empty c =
    let none : members_in c.args.region c.args.middle.now ≡ [] = search rules in
    rw (among-none c.args.region c.args.middle.now none) refl

-- with some it is
pub returns : goal.returns
returns c =
    let some = some-from_test c.is_empty.result c.in_ok-now.now c.is_empty.ensures c.if-is_empty.false in
    let there : is_among (regions c.args.middle.now) c.args.region ≡ true =
    among-some c.args.region c.args.middle.now (rw c.in_ok-now.ensures at some) in
    rw there (rw (c.in_ok-roll_in.ensures, c.in_ok-now.ensures) at c.diff_or_same-2.ensures)
