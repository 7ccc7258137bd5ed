use Rattle.std.proofs.Common.{subst, sym, inl}
use Rattle.std.specs.Prelude.{IsSome}
use Rattle.cs_link.specs.declared.link.Link.{Ghosts as LinkGhosts}
use Rattle.cs_log.specs.contracts.arming.ArmingLog.TheImpl as arming
use Rattle.cs_log.specs.declared.arming.Arming.{Arming}
use Rattle.cs_log.specs.declared.log.Log.{Ghosts as LogGhosts}
use Rattle.cs_machine.specs.Happens.{happens}
use Rattle.cs_world.specs.Stands.{Stands}
use Rattle.cs_world.specs.contracts.tap.TapLink.TheImpl as tap
use Rattle.cs_world.specs.declared.tap.Tap.{Tap}
use Rattle.census.proofs.PrintStays.{print-stays}
use Rattle.census.proofs.Restarts.{CanTell-told}
use Rattle.census.proofs.Standing.{stands-world}
use Rattle.census.proofs.drilling.happen_quietly.Given.{Over}
use Rattle.census.proofs.drilling.happen_quietly.Goals as goal

-- what the links tell
abbrev of_link : (g : Over) → LinkGhosts (Tap g.row.D-Wire.Denot g.D.Wire.Link)
of_link g = tap.ghosts g.row.D-Wire g.D.Wire.Link g.D.Wire.Link-dict

-- what the logs tell
abbrev of_log : (g : Over) → LogGhosts (Arming g.row.D-Store.Denot)
of_log g = arming.ghosts g.row.D-Store g.D.Store.Log g.D.Store.Log-dict

pub returns-in-Print-clause-behind : goal.returns-in-Print-clause-behind
returns-in-Print-clause-behind g c = λ machine stands told.
    subst (λ event. Stands (of_link g) (of_log g) c.args.world.now.nodes (happens machine event).world) (sym c.in-Print.is)
    (subst (Stands (of_link g) (of_log g) c.args.world.now.nodes) (sym (print-stays machine c.in-Print.field-0)) stands)

pub returns : goal.returns
returns g c =
    let tells = λ (told : IsSome (g.D.Ground.logs c.args.desk.now)).
    CanTell-told (of_link g) (of_log g) c.args.world.now.nodes.seats (g.D.Ground.logs c.args.desk.now)
    (λ some store. g.met.D.Ground.logs_tell c.args.desk.now store.inner some) c.args.event.now (inl told) in
    record {
      behind = λ machine stands told.
          stands-world (of_link g) (of_log g) c.step.new.self.nodes _ _ (happens machine c.args.event.now) c.step.result
          (c.step.ensures.ok machine stands (tells told));
      limit = λ machine stands told. c.step.ensures.limit machine stands (tells told);
      counted = c.step.ensures.counted;
      out = c.step.ensures.out;
      desk = c.step.ensures.desk;
    }
