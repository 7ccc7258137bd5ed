use Rattle.std.proofs.lemmas.Result.{err_from_is_err_and}
use Rattle.cs_link.specs.declared.link.Link.{Ghosts as LinkGhosts}
use Rattle.cs_log.specs.contracts.arming.ArmingLog.TheImpl as arming
use Rattle.cs_log.specs.declared.arming.Arming.{Arming}
use Rattle.cs_log.specs.declared.log.Log.{Ghosts as LogGhosts}
use Rattle.cs_world.specs.Desk.{desk_told}
use Rattle.cs_world.specs.Seats.{link_faults_of, log_faults_of, seats_of}
use Rattle.cs_world.specs.contracts.tap.TapLink.TheImpl as tap
use Rattle.cs_world.specs.declared.tap.Tap.{Tap}
use Rattle.census.specs.Lived.{FieldRose}
use Rattle.census.proofs.EventStops.{IsLineStop-kept}
use Rattle.census.proofs.LivePlan.{StopsIn-memory, WritesLife-risen}
use Rattle.census.proofs.Receiving.{FieldRose-nodes}
use Rattle.census.proofs.live_run.run_plan.Given.{Over}
use Rattle.census.proofs.live_run.run_plan.Goals as goal

-- what the links tell
abbrev of_link : (g : Over) → LinkGhosts (Tap g.row.F-Wire.Denot g.F.Wire.Link)
of_link g = tap.ghosts g.row.F-Wire g.F.Wire.Link g.F.Wire.Link-dict

-- what the logs tell
abbrev of_log : (g : Over) → LogGhosts (Arming g.row.F-Store.Denot)
of_log g = arming.ghosts g.row.F-Store g.F.Store.Log g.F.Store.Log-dict

pub returns-in_err-buffer-clause-life : goal.returns-in_err-buffer-clause-life
returns-in_err-buffer-clause-life g c =
    let p = err_from_is_err_and c.from_residual.result c.from_residual.ensures.1 in
    rw (p.1, p.2) (StopsIn-memory c.args.nodes c.args.port (g.K.Sink.written c.args.sink.now))

pub returns-clause-life : goal.returns-clause-life
returns-clause-life g c =
    let field = g.F.Ground in
    WritesLife-risen c.args.nodes c.args.port _ _ _ (FieldRose (desk_told field c.args.field.now) (desk_told field c.finish.new.field))
    c.follow-told.result _ _ _ c.follow-told.ensures.there c.follow-told.ensures.stop
    (λ there came missed rose. FieldRose-nodes (of_link g) (of_log g) c.new.result.nodes c.follow-told.new.self.world.nodes
    (desk_told field c.args.field.now) (desk_told field c.follow-told.new.field) (desk_told field c.finish.new.field) came missed
    c.new.ensures.items c.follow-told.ensures.field (c.finish.ensures.taken 1 there) (c.finish.ensures.dry 1 there) rose)
    c.follow-told.ensures.life

pub returns-clause-stop : goal.returns-clause-stop
returns-clause-stop g c =
    let field = g.F.Ground in
    let seats = seats_of (of_link g) (of_log g) c.follow-told.new.self.world.nodes.seats in
    IsLineStop-kept c.follow-told.result _ (desk_told field c.args.field.now) (desk_told field c.follow-told.new.field)
    (desk_told field c.finish.new.field) (link_faults_of seats) (log_faults_of seats) c.follow-told.ensures.field c.finish.ensures.faults
    c.finish.ensures.link_faults c.finish.ensures.log_faults c.follow-told.ensures.stop
