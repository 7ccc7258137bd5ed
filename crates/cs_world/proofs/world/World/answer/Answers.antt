-- an event is an action on a node, or something else
use Rattle.std.proofs.Common.{◌≡◌, [], Some, refl, sym, ap, subst, ◌∙◌}
use Rattle.std.specs.Option.{option_map}
use Rattle.std.proofs.lemmas.Result.{IfErr-at_err, err_from_is_err_and}
use Rattle.cs_log.specs.contracts.arming.ArmingLog.TheImpl as arming_log
use Rattle.cs_machine.specs.Happens.{happens}
use Rattle.cs_world.specs.Events.{action_for}
use Rattle.cs_world.specs.Seats.{parts_at}
use Rattle.cs_world.specs.Stands.{Tells}
use Rattle.cs_world.specs.contracts.tap.TapLink.TheImpl as tap_link
use Rattle.cs_world.specs.declared.action_of.ActionOn.{ActionOn}
use Rattle.cs_world.proofs.Calling.{can-act, event-acted}
use Rattle.cs_world.proofs.Starting.{ids-stay, out-ids}
use Rattle.cs_world.proofs.world.World.answer.Goals as goal

pub returns-in_err-text-clause-out : goal.returns-in_err-text-clause-out
returns-in_err-text-clause-out g c = out-ids _ _ c.args.self.now.nodes.seats c.act.new.self.seats refl c.act.ensures.ids c.requires.out

pub returns-clause-out : goal.returns-clause-out
returns-clause-out g c = out-ids _ _ c.args.self.now.nodes.seats c.act.new.self.seats refl c.act.ensures.ids c.requires.out

pub returns-clause-answers : goal.returns-clause-answers
returns-clause-answers g c = λ world stands can.
    let link = tap_link.ghosts g.row.D-Wire g.D.Wire.Link g.D.Wire.Link-dict in
    let log = arming_log.ghosts g.row.D-Store g.D.Store.Log g.D.Store.Log-dict in
    let event = c.args.event.now in
    let acts : action_for event ≡ Some (c.in-Some.on.id, c.in-Some.on.action) =
    sym c.action_of.ensures ∙ ap (option_map (λ (on : ActionOn). (on.id, on.action))) c.in-Some.is in
    let told = c.in_ok-text.ensures.answers refl world (happens world event) stands
    (can-act event _ _ acts (parts_at link log c.args.self.now.nodes.seats) can)
    (event-acted world stands.reached event c.requires.ranges _ _ acts) in
    (subst (λ bytes. Tells link log c.act.new.self [] bytes.items (happens world event)) (sym c.into_bytes.ensures.value) told.0, tt)

pub returns-in_err-text-clause-answers : goal.returns-in_err-text-clause-answers
returns-in_err-text-clause-answers g c = λ world stands can.
    let link = tap_link.ghosts g.row.D-Wire g.D.Wire.Link g.D.Wire.Link-dict in
    let log = arming_log.ghosts g.row.D-Store g.D.Store.Log g.D.Store.Log-dict in
    let event = c.args.event.now in
    let acts : action_for event ≡ Some (c.in-Some.on.id, c.in-Some.on.action) =
    sym c.action_of.ensures ∙ ap (option_map (λ (on : ActionOn). (on.id, on.action))) c.in-Some.is in
    let told = c.act.ensures.answers refl world (happens world event) stands
    (can-act event _ _ acts (parts_at link log c.args.self.now.nodes.seats) can)
    (event-acted world stands.reached event c.requires.ranges _ _ acts) in
    let p = err_from_is_err_and c.from_residual.result c.from_residual.ensures.1 in
    rw (p.1, p.2) (tt, IfErr-at_err _ c.in_err-text.was told.1)

pub returns-in_err-text-clause-stay : goal.returns-in_err-text-clause-stay
returns-in_err-text-clause-stay g c = ids-stay c.args.self.now.nodes.seats c.act.new.self.seats c.act.ensures.ids

pub returns-clause-stay : goal.returns-clause-stay
returns-clause-stay g c = ids-stay c.args.self.now.nodes.seats c.act.new.self.seats c.act.ensures.ids
