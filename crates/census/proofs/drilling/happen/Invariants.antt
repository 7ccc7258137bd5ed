use Rattle.std.proofs.Common.{drop}
use Rattle.std.specs.Prelude.{IsSome}
use Rattle.cs_link.specs.declared.link.Link.{Ghosts as LinkGhosts}
use Rattle.cs_log.specs.contracts.arming.ArmingLog.TheImpl as arming
use Rattle.cs_log.specs.declared.arming.Arming.{Arming}
use Rattle.cs_log.specs.declared.log.Log.{Ghosts as LogGhosts}
use Rattle.cs_machine.specs.Names.{World}
use Rattle.cs_world.specs.Desk.{OnlyGrants, desk_told}
use Rattle.cs_world.specs.Seats.{AreOut}
use Rattle.cs_world.specs.Stands.{Stands}
use Rattle.cs_world.specs.contracts.tap.TapLink.TheImpl as tap
use Rattle.cs_world.specs.declared.tap.Tap.{Tap}
use Rattle.census.proofs.Drills.{IsOnTheWay}
use Rattle.census.proofs.drilling.happen.Given as goal

-- what the links tell
abbrev pub of_link : (g : goal.Over) → LinkGhosts (Tap g.row.D-Wire.Denot g.D.Wire.Link)
of_link g = tap.ghosts g.row.D-Wire g.D.Wire.Link g.D.Wire.Link-dict

-- what the logs tell
abbrev pub of_log : (g : goal.Over) → LogGhosts (Arming g.row.D-Store.Denot)
of_log g = arming.ghosts g.row.D-Store g.D.Store.Log g.D.Store.Log-dict

abbrev pub invariant-loop-event : goal.invariant-loop-event
invariant-loop-event g l = record {
  way : (machine : World) → Stands (of_link g) (of_log g) l.fn.world.nodes machine → IsSome (g.D.Ground.logs l.fn.desk)
      → IsOnTheWay (Stands (of_link g) (of_log g) l.world.nodes) machine l.fn.events (drop l.event-index l.fn.events);
  out : AreOut (g.D.Ground.out l.desk) l.world.nodes.seats;
  desk : OnlyGrants (desk_told g.D.Ground l.fn.desk) (desk_told g.D.Ground l.desk);
}
