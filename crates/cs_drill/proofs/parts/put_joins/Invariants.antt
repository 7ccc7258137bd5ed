use Rattle.std.proofs.Common.{◌≡◌, ◌+◌, ◌*◌, ◌<◌, ◌++◌, drop, length}
use Rattle.std.specs.List.{flat_map, range_with_len}
use Rattle.cs_drill.specs.Limits.{together}
use Rattle.cs_drill.specs.Schedule.{batch, joined, others}
use Rattle.cs_drill.proofs.parts.put_joins.Given as goal

-- so many batches have joined, none of them empty, and what is left stands behind them
abbrev pub invariant-loop-batch : goal.invariant-loop-batch
invariant-loop-batch l =
    (l.batch-iterator.size ≡ together)
    × (l.batch-iterator.rest.now ≡ drop (together * length l.yielded) (others l.nodes))
    × (together * length l.yielded < together + length (others l.nodes))
    × (l.events.items
    ≡ l.initial.events.items ++ flat_map (λ place. joined (batch l.nodes place)) (range_with_len 0 (length l.yielded)))
