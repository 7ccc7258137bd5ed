use Rattle.std.proofs.Common.{◌≡◌, map, take}
use Rattle.cs_group.specs.Rows.{regions}
use Rattle.cs_slicer.proofs.Beside.{beside}
use Rattle.cs_slicer.proofs.Summaries.{summary_in}
use Rattle.cs_lead.proofs.WholeViews.{roll_in_rows}
use Rattle.cs_lead.proofs.wholes.picture_of.Given as goal

-- the summaries and the rolls of the regions so far
abbrev pub invariant-loop-i : goal.invariant-loop-i
invariant-loop-i l = record {
  summaries : l.summaries ≡ map (beside (summary_in l.group.rows)) (take l.i (regions l.group.rows));
  rolls : l.rolls ≡ map (beside (roll_in_rows l.group.rows)) (take l.i (regions l.group.rows));
}
