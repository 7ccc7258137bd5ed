use Rattle.std.proofs.Common.{◌≡◌, ℕ, ◌+◌, ◌*◌, ◌++◌, length, map, take}
use Rattle.std.specs.List.{range_with_len}
use Rattle.cs_drill.specs.Draws.{state_after}
use Rattle.cs_drill.specs.Limits.{moves}
use Rattle.cs_drill.specs.Schedule.{moved, mover}
use Rattle.cs_drill.proofs.parts.put_moves.Given as goal

-- so many have moved, each behind four draws, and are noted in their places
abbrev pub invariant-loop-place : goal.invariant-loop-place
invariant-loop-place l =
    (length l.movers ≡ moves)
    × ((seed before : ℕ) → l.fn.draws.state ≡ state_after seed before
    → (take l.place l.movers ≡ map (mover l.nodes seed before) (range_with_len 0 l.place))
    × (l.events.items ≡ l.initial.events.items ++ map (moved l.nodes seed before) (range_with_len 0 l.place))
    × (l.draws.state ≡ state_after seed (before + 4 * l.place)))
