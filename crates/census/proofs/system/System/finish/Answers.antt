use Rattle.std.proofs.Common.{subst}
use Rattle.cs_link.specs.declared.link.Link.{Ghosts as LinkGhosts}
use Rattle.cs_log.specs.contracts.arming.ArmingLog.TheImpl as arming
use Rattle.cs_log.specs.declared.arming.Arming.{Arming}
use Rattle.cs_log.specs.declared.log.Log.{Ghosts as LogGhosts}
use Rattle.cs_world.specs.Seats.{AreOut}
use Rattle.cs_world.specs.contracts.tap.TapLink.TheImpl as tap
use Rattle.cs_world.specs.declared.tap.Tap.{Tap}
use Rattle.census.specs.Run.{TellsLogs, TellsTraffic}
use Rattle.census.specs.Standing.{nodes_in}
use Rattle.census.specs.declared.system.System.{System as Code}
use Rattle.census.proofs.Standing.{by-single, by-world}
use Rattle.census.proofs.system.System.finish.Given.{Over}
use Rattle.census.proofs.system.System.finish.Goals as goal

-- what the links tell
abbrev of_link : (g : Over) → LinkGhosts (Tap g.row.D-Wire.Denot g.D.Wire.Link)
of_link g = tap.ghosts g.row.D-Wire g.D.Wire.Link g.D.Wire.Link-dict

-- what the logs tell
abbrev of_log : (g : Over) → LogGhosts (Arming g.row.D-Store.Denot)
of_log g = arming.ghosts g.row.D-Store g.D.Store.Log g.D.Store.Log-dict

-- the ids that are out are those of the nodes that the code has
abbrev OutOf : (g : Over) → g.row.D.Denot → Code g.row.D.Denot g.row.D-Wire.Denot g.row.D-Store.Denot g.D.Wire.Link → Type 0
OutOf g desk system = AreOut (g.D.Ground.out desk) (nodes_in system).seats

pub finish-requires : goal.finish-requires
finish-requires g c = subst (OutOf g c.args.desk.now) c.in-World.is c.requires

pub finish-requires-in-Single : goal.finish-requires-in-Single
finish-requires-in-Single g c = subst (OutOf g c.args.desk.now) c.in-Single.is c.requires

pub returns-in-World-clause-logs : goal.returns-in-World-clause-logs
returns-in-World-clause-logs g c = rw c.in-World.is (
    by-world (of_link g) (of_log g) c.in-World.world (TellsLogs (g.D.Ground.logs c.args.desk.now) (g.D.Ground.logs c.finish.new.desk))
    c.finish.ensures.logs)

pub returns-in-World-clause-traffic : goal.returns-in-World-clause-traffic
returns-in-World-clause-traffic g c = rw c.in-World.is (
    by-world (of_link g) (of_log g) c.in-World.world (TellsTraffic (g.D.Ground.traffic c.args.desk.now) (g.D.Ground.traffic c.finish.new.desk))
    c.finish.ensures.traffic)

pub returns-in-Single-clause-logs : goal.returns-in-Single-clause-logs
returns-in-Single-clause-logs g c = rw c.in-Single.is (
    by-single (of_link g) (of_log g) c.in-Single.single
    (TellsLogs (g.D.Ground.logs c.args.desk.now) (g.D.Ground.logs c.finish-in-Single.new.desk)) c.finish-in-Single.ensures.logs)

pub returns-in-Single-clause-traffic : goal.returns-in-Single-clause-traffic
returns-in-Single-clause-traffic g c = rw c.in-Single.is (
    by-single (of_link g) (of_log g) c.in-Single.single
    (TellsTraffic (g.D.Ground.traffic c.args.desk.now) (g.D.Ground.traffic c.finish-in-Single.new.desk)) c.finish-in-Single.ensures.traffic)

pub returns-in-World-clause-link_faults : goal.returns-in-World-clause-link_faults
returns-in-World-clause-link_faults g c = rw c.in-World.is c.finish.ensures.link_faults

pub returns-in-World-clause-log_faults : goal.returns-in-World-clause-log_faults
returns-in-World-clause-log_faults g c = rw c.in-World.is c.finish.ensures.log_faults

pub returns-in-Single-clause-link_faults : goal.returns-in-Single-clause-link_faults
returns-in-Single-clause-link_faults g c = rw c.in-Single.is c.finish-in-Single.ensures.link_faults

pub returns-in-Single-clause-log_faults : goal.returns-in-Single-clause-log_faults
returns-in-Single-clause-log_faults g c = rw c.in-Single.is c.finish-in-Single.ensures.log_faults
