-- what was open up to the place was delivered
use Rattle.std.proofs.Common.{◌≡◌, ◌≤◌, ◌+◌, length}
use Rattle.std.specs.String.{string_bytes}
use Rattle.cs_machine.specs.Names.{World as Machine}
use Rattle.cs_world.specs.Receiving.{received_of}
use Rattle.cs_world.specs.Seats.{ids_of, seats_of}
use Rattle.cs_world.specs.Stands.{Stands}
use Rattle.cs_world.proofs.Rounds.{RoundTo}
use Rattle.cs_world.proofs.nodes.Nodes.settle_round.Given as goal

abbrev pub invariant-loop-place : goal.invariant-loop-place
invariant-loop-place g l =
    ((world : Machine) → Stands g.L.Link g.G.Log l.fn.self world
    → RoundTo g.L.Link g.G.Log world l.self (string_bytes l.fn.out) (string_bytes l.out) l.count l.place l.end)
    × (l.count + l.fn.self.traffic.front ≤ l.place) × (l.self.traffic.front ≡ l.fn.self.traffic.front)
    × (l.end ≤ length l.self.traffic.datagrams.items) × (ids_of l.self.seats ≡ ids_of l.fn.self.seats)
    × (received_of (seats_of g.L.Link g.G.Log l.self.seats) ≡ received_of (seats_of g.L.Link g.G.Log l.fn.self.seats))
