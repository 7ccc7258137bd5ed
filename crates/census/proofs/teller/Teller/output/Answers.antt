use Rattle.std.proofs.Common.{◌≡◌, ◌++◌, length, Ok, ap, ◌∙◌, arith}
use Rattle.std.proofs.lemmas.Result.{err_from_is_err_and}
use Rattle.cs_link.specs.declared.link.Link.{Ghosts as LinkGhosts}
use Rattle.cs_log.specs.Faults.{HasRisen}
use Rattle.cs_log.specs.contracts.arming.ArmingLog.TheImpl as arming
use Rattle.cs_log.specs.declared.arming.Arming.{Arming}
use Rattle.cs_log.specs.declared.log.Log.{Ghosts as LogGhosts}
use Rattle.cs_script.specs.declared.event.Event.{Event}
use Rattle.cs_show.specs.Text.{text_of}
use Rattle.cs_world.specs.Seats.{parts_at, seats_of}
use Rattle.cs_world.specs.Stands.{CanTell}
use Rattle.cs_world.specs.contracts.tap.TapLink.TheImpl as tap
use Rattle.cs_world.specs.declared.nodes.Nodes.{Nodes}
use Rattle.cs_world.specs.declared.tap.Tap.{Tap}
use Rattle.census.specs.Restarts.{RestartIsTold}
use Rattle.census.specs.Standing.{nodes_in}
use Rattle.census.specs.Systems.{happens_in}
use Rattle.census.specs.declared.status.Status.TheVariants.{Limit}
use Rattle.census.specs.WorldFaults.{status_for}
use Rattle.census.proofs.EventStops.{IsEventStop-world, goes_beyond-within, goes_beyond-written, passes-world}
use Rattle.census.proofs.Restarts.{CanTell-told}
use Rattle.census.proofs.Standing.{sent-few}
use Rattle.census.proofs.teller.Teller.output.Given.{Over}
use Rattle.census.proofs.teller.Teller.output.Goals as goal

-- what the links tell
abbrev of_link : (g : Over) → LinkGhosts (Tap g.row.D-Wire.Denot g.D.Wire.Link)
of_link g = tap.ghosts g.row.D-Wire g.D.Wire.Link g.D.Wire.Link-dict

-- what the logs tell
abbrev of_log : (g : Over) → LogGhosts (Arming g.row.D-Store.Denot)
of_log g = arming.ghosts g.row.D-Store g.D.Store.Log g.D.Store.Log-dict

-- who comes back has a log that tells
can_tell : (g : Over) (desk : g.row.D.Denot) (nodes : Nodes (Tap g.row.D-Wire.Denot g.D.Wire.Link) (Arming g.row.D-Store.Denot)) (event : Event)
    → RestartIsTold (g.D.Ground.logs desk) (Ok event) → CanTell event (parts_at (of_link g) (of_log g) nodes.seats)
can_tell g desk nodes event restart =
    CanTell-told (of_link g) (of_log g) nodes.seats (g.D.Ground.logs desk) (λ told store. g.met.D.Ground.logs_tell desk store.inner told) event restart

pub returns-in_err-step-clause-limit : goal.returns-in_err-step-clause-limit
returns-in_err-step-clause-limit g c = λ machine stands restart is.
    let p = err_from_is_err_and c.from_residual-in_err-step.result c.from_residual-in_err-step.ensures.1 in
    let after = happens_in machine c.args.event.now in
    let told = can_tell g c.args.desk.now (nodes_in c.args.self.now.system) c.args.event.now restart in
    let same : status_for c.in_err-step.field-0.0 ≡ Limit = (cc) in
    passes-world c.in_err-step.field-0.0 after c.args.self.now.counts.written c.args.line.now (c.in_err-step.ensures.limit machine stands told) same

pub returns-in_err-step-clause-stop : goal.returns-in_err-step-clause-stop
returns-in_err-step-clause-stop g c =
    let p = err_from_is_err_and c.from_residual-in_err-step.result c.from_residual-in_err-step.ensures.1 in
    let seats = seats_of (of_link g) (of_log g) (nodes_in c.step.new.self).seats in
    rw (p.1, p.2)
    (IsEventStop-world c.in_err-step.field-0.0 (HasRisen (g.D.Ground.faults c.args.desk.now) (g.D.Ground.faults c.step.new.desk)) seats
    c.in_err-step.ensures.counted)

pub returns-in_err-self-clause-limit : goal.returns-in_err-self-clause-limit
returns-in_err-self-clause-limit g c = λ machine stands restart is.
    let limit = c.in_err-self.ensures.limit in
    let after = happens_in machine c.args.event.now in
    let told = can_tell g c.args.desk.now (nodes_in c.args.self.now.system) c.args.event.now restart in
    let bytes = c.in_ok-step.ensures.text machine stands told ∙ ap (λ front. front ++ text_of after.lines) c.in_ok-text.ensures in
    goes_beyond-written after.system _ (omega (arith, limit.1, c.len.ensures, ap length bytes))

pub returns-clause-ok : goal.returns-clause-ok
returns-clause-ok g c = λ machine stands restart.
    let after = happens_in machine c.args.event.now in
    let told = can_tell g c.args.desk.now (nodes_in c.args.self.now.system) c.args.event.now restart in
    let behind = c.in_ok-step.ensures.stands machine stands told in
    let bytes = c.in_ok-step.ensures.text machine stands told ∙ ap (λ front. front ++ text_of after.lines) c.in_ok-text.ensures in
    record {
      written = omega (arith, c.in_ok-self.ensures.sum, c.len.ensures, ap length bytes);
      within = goes_beyond-within after.system _ (sent-few (of_link g) (of_log g) c.step.new.self after.system behind)
          (omega (arith, c.in_ok-self.ensures.sum, c.in_ok-self.ensures.few, c.len.ensures, ap length bytes));
      stands = behind;
    }
