-- so many rounds were told, with no more deliveries than places that were gone through
use Rattle.std.proofs.Common.{◌≡◌, ◌-◌, ◌≤◌}
use Rattle.std.specs.String.{string_bytes}
use Rattle.cs_machine.specs.Names.{World as Machine}
use Rattle.cs_world.specs.Receiving.{received_of}
use Rattle.cs_world.specs.Seats.{ids_of, seats_of}
use Rattle.cs_world.specs.Stands.{Stands}
use Rattle.cs_world.proofs.SettleRuns.{SettledTo}
use Rattle.cs_world.proofs.nodes.Nodes.settle.Given as goal

abbrev pub invariant-loop-rounds : goal.invariant-loop-rounds
invariant-loop-rounds g l =
    ((world : Machine) → Stands g.L.Link g.G.Log l.fn.self world
    → SettledTo g.L.Link g.G.Log world l.most l.self (string_bytes l.text) l.count l.rounds)
    × (l.count ≤ l.self.traffic.front) × (ids_of l.self.seats ≡ ids_of l.fn.self.seats)
    × (received_of (seats_of g.L.Link g.G.Log l.self.seats) ≡ received_of (seats_of g.L.Link g.G.Log l.fn.self.seats))

abbrev pub decreases-loop-rounds : goal.decreases-loop-rounds
decreases-loop-rounds g l = l.most - l.rounds
