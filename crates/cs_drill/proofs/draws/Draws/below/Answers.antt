use Rattle.std.proofs.Common.{ap, ◌∙◌, sym}
use Rattle.cs_drill.proofs.States.{one-more, stepped}
use Rattle.cs_drill.specs.Draws.{drawn_below, state_after}
use Rattle.cs_drill.proofs.draws.Draws.below.Goals as goal

pub returns-clause-value : goal.returns-clause-value
unfolding state_after
returns-clause-value c seed before at =
    rw c.from.ensures (ap (drawn_below c.args.bound) (stepped _ seed before at ∙ sym (one-more seed before)))

pub returns-clause-state : goal.returns-clause-state
returns-clause-state c = stepped _
