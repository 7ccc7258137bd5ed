-- the leader is started, in the empty world
use Rattle.std.proofs.Common.{[], Err, Some, refl, subst, sym, ap, ◌∙◌}
use Rattle.std.specs.String.{string_bytes}
use Rattle.std.proofs.lemmas.Result.{err_from_is_err_and}
use Rattle.cs_log.specs.contracts.arming.ArmingLog.TheImpl as arming_log
use Rattle.cs_script.specs.declared.event.Event.TheVariants as events
use Rattle.cs_machine.specs.Happens.{happens, own_leader}
use Rattle.cs_world.specs.Stands.{Stands, Tells}
use Rattle.cs_world.specs.contracts.tap.TapLink.TheImpl as tap_link
use Rattle.cs_world.proofs.Answering.{err-answers}
use Rattle.cs_world.proofs.Leads.{leader-led, leads-tells, unled-empty}
use Rattle.cs_world.proofs.Options.{absent_none}
use Rattle.cs_world.proofs.Results.{unlimited}
use Rattle.cs_world.proofs.world.World.lead.Goals as goal

pub start-requires-clause-unused : goal.start-requires-clause-unused
start-requires-clause-unused g c = c.is_used.ensures.unused c.if-is_used.false

pub returns-in_err-text-clause-answers : goal.returns-in_err-text-clause-answers
returns-in_err-text-clause-answers g c = λ world stands.
    let link = tap_link.ghosts g.row.D-Wire g.D.Wire.Link g.D.Wire.Link-dict in
    let log = arming_log.ghosts g.row.D-Store g.D.Store.Log g.D.Store.Log-dict in
    let after = happens world (events.Lead c.args.id c.args.addr c.args.at) in
    let p = err_from_is_err_and c.from_residual.result c.from_residual.ensures.1 in
    err-answers link log c.start.new.nodes c.from_residual.result c.in_err-text.field-0.0 after
    (p.1 ∙ ap (λ e. Err e) p.2) (unlimited after.world (Err c.in_err-text.field-0.0) c.in_err-text.ensures.unlimited)

pub returns-clause-answers : goal.returns-clause-answers
returns-clause-answers g c = λ world stands.
    let link = tap_link.ghosts g.row.D-Wire g.D.Wire.Link g.D.Wire.Link-dict in
    let log = arming_log.ghosts g.row.D-Store g.D.Store.Log g.D.Store.Log-dict in
    let code = c.args.self.now.nodes in
    let later = record c.start.new.nodes { leader = Some (own_leader c.args.id c.args.addr c.args.at) } in
    let event = events.Lead c.args.id c.args.addr c.args.at in
    let empty = unled-empty link log code world stands (absent_none code.leader (sym c.is_some.ensures ∙ c.if-is_some.false)) in
    let started = c.in_ok-text.ensures in
    let nodes = started.nodes (leader-led c.args.id c.args.addr c.args.at) in (
      subst (λ w. Tells link log later [] (string_bytes c.in_ok-text.text) (happens w event)) (sym empty)
          (leads-tells link log code later c.args.id c.args.addr c.args.at nodes.0 (subst (Stands link log code) empty stands)
          c.requires.allowed nodes.1 nodes.2 started.addresses refl started.traffic [] (string_bytes c.in_ok-text.text) started.text),
      tt,
    )
