use Rattle.cs_roll.specs.Sight.{IsByRegion}
use Rattle.cs_view.proofs.tests.rolls_of.Given as goal

-- the rolls so far ascend
abbrev pub invariant-loop-number : goal.invariant-loop-number
invariant-loop-number g l = IsByRegion l.rolls.items
