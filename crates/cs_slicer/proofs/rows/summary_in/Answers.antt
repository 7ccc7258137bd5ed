use Rattle.std.proofs.Common.{◌≡◌, true, [], Some, ap, refl, ◌∙◌, rules, arith}
use Rattle.cs_group.proofs.Members.{length-members_in-le}
use Rattle.cs_group.specs.Group.{is_among}
use Rattle.cs_group.specs.Rows.{members_in, regions}
use Rattle.cs_roll.specs.Summary.{summary_of}
use Rattle.cs_slicer.proofs.Regions.{among-none, among-some}
use Rattle.cs_slicer.proofs.Steps.{some-from_test}
use Rattle.cs_slicer.proofs.Summaries.{at_region-summaries_of}
use Rattle.cs_slicer.proofs.rows.summary_in.Goals as goal

-- without members the region has no summary
pub returns-then-is_empty : goal.returns-then-is_empty
returns-then-is_empty c =
    let none : members_in c.args.region c.args.rows.now ≡ [] = search rules in
    rw (at_region-summaries_of c.args.region c.args.rows.now, among-none c.args.region c.args.rows.now none) refl

-- it has no more than all
pub summary-requires-clause-few : goal.summary-requires-clause-few
summary-requires-clause-few c =
    let few = length-members_in-le c.args.region c.args.rows.now in
    rw c.in_ok-roll.ensures (omega (arith, few, c.requires.few))

-- with some it has theirs
pub returns : goal.returns
returns c =
    let some = some-from_test c.is_empty.result c.in_ok-roll.roll c.is_empty.ensures c.if-is_empty.false in
    let there : is_among (regions c.args.rows.now) c.args.region ≡ true = among-some c.args.region c.args.rows.now (rw c.in_ok-roll.ensures at some) in
    rw (at_region-summaries_of c.args.region c.args.rows.now, there) (ap Some (c.in_ok-summary.ensures ∙ ap summary_of c.in_ok-roll.ensures))
