use Rattle.cs_roll.specs.Sight.{IsByRegion}
use Rattle.cs_view.proofs.tests.summaries_of.Given as goal

-- the summaries so far ascend
abbrev pub invariant-loop-number : goal.invariant-loop-number
invariant-loop-number g l = IsByRegion l.summaries.items
