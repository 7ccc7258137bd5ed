use Rattle.std.proofs.Common.{◌≡◌, ℕ, ◌*◌, ◌-◌, ◌++◌, map}
use Rattle.std.specs.List.{range_with_len}
use Rattle.cs_drill.specs.Draws.{state_after}
use Rattle.cs_drill.specs.Schedule.{booted}
use Rattle.cs_drill.proofs.parts.put_starts.Given as goal

-- the nodes below this one have started, each behind three draws
abbrev pub invariant-loop-node : goal.invariant-loop-node
invariant-loop-node l =
    (seed : ℕ) → l.fn.draws.state ≡ state_after seed 0
    → (l.events.items ≡ l.initial.events.items ++ map (booted l.nodes seed) (range_with_len 2 (l.node - 2)))
    × (l.draws.state ≡ state_after seed (3 * (l.node - 1)))
