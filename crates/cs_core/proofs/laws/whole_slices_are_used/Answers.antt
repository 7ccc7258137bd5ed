use Rattle.cs_core.specs.Taking.{stepped}
use Rattle.cs_core.proofs.Complete.{gain-complete, stepped-goes_on}
use Rattle.cs_core.proofs.laws.whole_slices_are_used.Goals as goal

-- the plan is that of the step
pub returns : goal.returns
returns c = λ own m gain w used after is.
    (stepped own m gain used after, gain-complete own m gain w used after is, stepped-goes_on own m gain w used after is.steps)
