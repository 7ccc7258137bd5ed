use Rattle.std.proofs.Common.{rules}
use Rattle.cs_roll.proofs.Summaries.{IsSummary-made, summary_same}
use Rattle.cs_roll.proofs.roll.Roll.summary.Goals as goal

-- what was made is the summary of the members, whose points are near 0
pub invariant_of-result : goal.invariant_of-result
invariant_of-result c =
    let members = c.as_slice-members.result.now in
    let same = c.as_slice-members.ensures.value in
    IsSummary-made members _ (search rules) (rw same c.requires.some) (rw same c.requires.few) (rw same c.as_slice-members.ensures.roll)
    c.total_on.ensures.near c.total_on-2.ensures.near c.total_on-3.ensures.near

-- and they are the roll's
pub returns : goal.returns
returns c = summary_same c.as_slice-members.result.now c.args.self.now _ (search rules) c.as_slice-members.ensures.value
