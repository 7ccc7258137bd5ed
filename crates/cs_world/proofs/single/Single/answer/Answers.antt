-- an event is an action on the node, or something else
use Rattle.std.proofs.Common.{◌≡◌, Some, Ok, refl, sym, ap, ◌∙◌}
use Rattle.std.specs.Option.{option_map}
use Rattle.std.proofs.lemmas.Result.{IfErr-at_err, err_from_is_err_and}
use Rattle.cs_log.specs.contracts.arming.ArmingLog.TheImpl as arming_log
use Rattle.cs_world.specs.AloneEvents.{happens_alone}
use Rattle.cs_world.specs.Events.{action_for}
use Rattle.cs_world.specs.Seats.{parts_at}
use Rattle.cs_world.specs.contracts.tap.TapLink.TheImpl as tap_link
use Rattle.cs_world.specs.declared.action_of.ActionOn.{ActionOn}
use Rattle.cs_world.proofs.AloneSingle.{answers-acts, event-does}
use Rattle.cs_world.proofs.Calling.{can-act}
use Rattle.cs_world.proofs.Starting.{out-ids}
use Rattle.cs_world.proofs.single.Single.answer.Goals as goal

pub returns-in_err-text-clause-out : goal.returns-in_err-text-clause-out
returns-in_err-text-clause-out g c = out-ids _ _ c.args.self.now.nodes.seats c.act.new.self.seats refl c.act.ensures.ids c.requires.out

pub returns-clause-out : goal.returns-clause-out
returns-clause-out g c = out-ids _ _ c.args.self.now.nodes.seats c.act.new.self.seats refl c.act.ensures.ids c.requires.out

pub returns-clause-answers : goal.returns-clause-answers
returns-clause-answers g c = λ alone is can.
    let link = tap_link.ghosts g.row.D-Wire g.D.Wire.Link g.D.Wire.Link-dict in
    let log = arming_log.ghosts g.row.D-Store g.D.Store.Log g.D.Store.Log-dict in
    let event = c.args.event.now in
    let code = c.args.self.now.nodes in
    let home = c.args.self.now.home in
    let acts : action_for event ≡ Some (c.in-Some.on.id, c.in-Some.on.action) =
    sym c.action_of.ensures ∙ ap (option_map (λ (on : ActionOn). (on.id, on.action))) c.in-Some.is in
    let told = c.in_ok-text.ensures.alone refl alone is.nodes (can-act event _ _ acts (parts_at link log code.seats) can) in
    let both = answers-acts link log code c.act.new.self home home alone is (Ok c.in_ok-text.text) (happens_alone alone event) _ _
    (event-does alone event _ _ acts) refl told in
    ((ap (λ v. v.items) c.into_bytes.ensures.value ∙ both.0.0, both.0.1), tt)

pub returns-in_err-text-clause-answers : goal.returns-in_err-text-clause-answers
returns-in_err-text-clause-answers g c = λ alone is can.
    let link = tap_link.ghosts g.row.D-Wire g.D.Wire.Link g.D.Wire.Link-dict in
    let log = arming_log.ghosts g.row.D-Store g.D.Store.Log g.D.Store.Log-dict in
    let event = c.args.event.now in
    let code = c.args.self.now.nodes in
    let home = c.args.self.now.home in
    let acts : action_for event ≡ Some (c.in-Some.on.id, c.in-Some.on.action) =
    sym c.action_of.ensures ∙ ap (option_map (λ (on : ActionOn). (on.id, on.action))) c.in-Some.is in
    let both = answers-acts link log code c.act.new.self home home alone is c.act.result (happens_alone alone event) _ _
    (event-does alone event _ _ acts) refl
    (c.act.ensures.alone refl alone is.nodes (can-act event _ _ acts (parts_at link log code.seats) can)) in
    let p = err_from_is_err_and c.from_residual.result c.from_residual.ensures.1 in
    rw (p.1, p.2) (tt, IfErr-at_err _ c.in_err-text.was both.1)
