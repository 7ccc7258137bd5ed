use Rattle.std.proofs.Common.{◌≡◌, ◌-◌, Some}
use Rattle.cs_tree.proofs.Ways.{first_below}
use Rattle.cs_tree.proofs.routes.child_towards.Given as goal

abbrev pub invariant-loop-step : goal.invariant-loop-step
invariant-loop-step l =
    first_below l.tree.edges l.above (l.steps - l._step) (Some l.key) ≡ first_below l.tree.edges l.above l.steps (Some l.region)
