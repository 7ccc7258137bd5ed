use Rattle.std.proofs.Common.{◌≡◌, ℕ, ◌*◌, ◌++◌}
use Rattle.std.specs.List.{flat_map, range_with_len}
use Rattle.cs_drill.specs.Draws.{state_after}
use Rattle.cs_drill.specs.Schedule.{draws_before, round_behind}
use Rattle.cs_drill.proofs.generating.put_rounds.Given as goal

-- so many rounds stand there, and their draws were made
abbrev pub invariant-loop : goal.invariant-loop
invariant-loop l =
    (seed : ℕ) → l.fn.draws.state ≡ state_after seed (3 * l.nodes)
    → (l.events.items ≡ l.initial.events.items
    ++ flat_map (λ round. round_behind l.nodes seed (draws_before l.nodes round)) (range_with_len 0 l.counter))
    × (l.draws.state ≡ state_after seed (draws_before l.nodes l.counter))
