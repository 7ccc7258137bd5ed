use Rattle.std.proofs.Common.{◌≡◌, ◌-◌, ◌++◌}
use Rattle.std.specs.List.{range_with_len}
use Rattle.cs_drill.specs.Plan.{booted, each}
use Rattle.cs_drill.proofs.planning.put_live_starts.Given as goal

-- the nodes below this one have started
abbrev pub invariant-loop-node : goal.invariant-loop-node
invariant-loop-node l =
    l.plan.items ≡ l.initial.plan.items ++ each (booted l.port) (range_with_len 2 (l.node - 2))
