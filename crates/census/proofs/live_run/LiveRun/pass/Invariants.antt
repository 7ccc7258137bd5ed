use Rattle.std.specs.Prelude.{◌≡◌, ℕ, ◌*◌, ◌≤◌, IsSome}
use Rattle.cs_link.specs.declared.link.Link.{Ghosts as LinkGhosts}
use Rattle.cs_log.specs.contracts.arming.ArmingLog.TheImpl as arming
use Rattle.cs_log.specs.declared.arming.Arming.{Arming}
use Rattle.cs_log.specs.declared.log.Log.{Ghosts as LogGhosts}
use Rattle.cs_machine.specs.Names.{World}
use Rattle.cs_world.specs.Desk.{OnlyGrants, desk_told}
use Rattle.cs_world.specs.Seats.{AreOut, state_at}
use Rattle.cs_world.specs.Stands.{Stands}
use Rattle.cs_world.specs.contracts.tap.TapLink.TheImpl as tap
use Rattle.cs_world.specs.declared.tap.Tap.{Tap}
use Rattle.census.specs.Lived.{AreReceived, NodesRose, dry_in_pass, most_taken}
use Rattle.census.proofs.live_run.LiveRun.pass.Given as goal

-- what the links tell
abbrev pub of_link : (g : goal.Over) → LinkGhosts (Tap g.row.F-Wire.Denot g.F.Wire.Link)
of_link g = tap.ghosts g.row.F-Wire g.F.Wire.Link g.F.Wire.Link-dict

-- what the logs tell
abbrev pub of_log : (g : goal.Over) → LogGhosts (Arming g.row.F-Store.Denot)
of_log g = arming.ghosts g.row.F-Store g.F.Store.Log g.F.Store.Log-dict

abbrev pub invariant-loop-before : goal.invariant-loop-before
invariant-loop-before g l = record {
  received : (world : World) → Stands (of_link g) (of_log g) l.fn.self.world.nodes world
      → AreReceived (Stands (of_link g) (of_log g) l.self.world.nodes) l.fn.self.written l.self.written world l.came
      (g.K.Sink.written l.fn.sink) (g.K.Sink.written l.sink);
  rose : NodesRose (of_link g) (of_log g) l.fn.self.world.nodes l.self.world.nodes l.came (dry_in_pass l.before l.came);
  few : l.came ≤ most_taken * l.before;
  stay : (id : ℕ) → IsSome (state_at l.fn.self.world.nodes.seats id) → IsSome (state_at l.self.world.nodes.seats id);
  same : l.self.nodes ≡ l.fn.self.nodes;
  counts : g.K.Sink.faults l.fn.sink ≤ g.K.Sink.faults l.sink;
  out : AreOut (g.F.Ground.out l.field) l.self.world.nodes.seats;
  field : OnlyGrants (desk_told g.F.Ground l.fn.field) (desk_told g.F.Ground l.field);
}
