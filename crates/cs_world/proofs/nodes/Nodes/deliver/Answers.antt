-- the number's packet, or none
use Rattle.std.proofs.Common.{◌≡◌, Some, arith, codes, length, refl, sym, ap, subst, ◌∙◌}
use Rattle.std.specs.Option.{option_copied}
use Rattle.std.specs.String.{string_bytes}
use Rattle.std.proofs.lemmas.Result.{err_from_is_err_and}
use Rattle.std.proofs.lemmas.Option.{none-some}
use Rattle.cs_machine.specs.Delivering.{deliver_at, delivered}
use Rattle.cs_world.specs.Sending.{as_closed, as_delivered, datagram_at}
use Rattle.cs_world.specs.Stands.{IsLimitOf}
use Rattle.cs_world.specs.declared.action.Action.TheVariants as actions
use Rattle.cs_world.specs.declared.call.Call.TheVariants as calls
use Rattle.cs_world.proofs.Answering.{err-answers, line-answers}
use Rattle.cs_world.proofs.Changing.{changed-length}
use Rattle.cs_world.proofs.Deliveries.{arrives, delivery-called, delivery-limit, delivery-tells, packet, receiver-id, unnumbered}
use Rattle.cs_world.proofs.nodes.Nodes.deliver.Goals as goal

pub returns-in_default-clause-answers : goal.returns-in_default-clause-answers
returns-in_default-clause-answers g c = λ world stands.
    let code = c.args.self.now in
    line-answers g.L.Link g.G.Log code world (codes "no packet") c.line.result (deliver_at world c.args.number) stands
    c.line.ensures.text c.line.ensures.memory
    (ap (delivered world c.args.number) (unnumbered world code.traffic.datagrams.items c.args.number stands.traffic.packets
    (sym c.get.ensures ∙ ap option_copied c.in_default.is)))

pub returns-in_default-id_at-clause-answers : goal.returns-in_default-id_at-clause-answers
returns-in_default-id_at-clause-answers g c = λ world stands.
    let code = c.args.self.now in
    let datagram = c.in-Some.datagram.now in
    let there : datagram_at code.traffic.datagrams.items c.args.number ≡ Some datagram = sym c.get.ensures ∙ ap option_copied c.in-Some.is in
    absurd (none-some (packet g.L.Link g.G.Log code world c.args.number datagram stands there).sent.to
    (sym c.in_default-id_at.is ∙ c.id_at.ensures ∙ receiver-id g.L.Link g.G.Log code world c.args.number datagram stands there))

pub returns-in_err-text-clause-answers : goal.returns-in_err-text-clause-answers
returns-in_err-text-clause-answers g c = λ world stands.
    let code = c.args.self.now in
    let number = c.args.number in
    let datagram = c.in-Some.datagram.now in
    let there : datagram_at code.traffic.datagrams.items number ≡ Some datagram = sym c.get.ensures ∙ ap option_copied c.in-Some.is in
    let called = delivery-called g.L.Link g.G.Log code world number datagram stands there c.in-Some-id_at.to c.as_slice.result
    (sym c.in-Some-id_at.is ∙ (c.id_at.ensures)) c.as_slice.ensures in
    let answers = c.in_err-text.ensures.answers refl code.seats (actions.Call (calls.Deliver c.as_slice.result)) c.deliver-acted.ensures.acts world
    (arrives g.L.Link g.G.Log code world number datagram stands there) stands tt called in
    let p = err_from_is_err_and c.from_residual.result c.from_residual.ensures.1 in
    err-answers g.L.Link g.G.Log c.tell_acted.new.self c.from_residual.result p.0 (deliver_at world number) p.1
    (subst (IsLimitOf (deliver_at world number).world) (sym p.2)
    (delivery-limit g.L.Link g.G.Log code world number datagram stands there c.in_err-text.field-0.0 answers.1))

pub returns-clause-answers : goal.returns-clause-answers
returns-clause-answers g c = λ world stands.
    let code = c.args.self.now in
    let number = c.args.number in
    let datagram = c.in-Some.datagram.now in
    let there : datagram_at code.traffic.datagrams.items number ≡ Some datagram = sym c.get.ensures ∙ ap option_copied c.in-Some.is in
    let called = delivery-called g.L.Link g.G.Log code world number datagram stands there c.in-Some-id_at.to c.as_slice.result
    (sym c.in-Some-id_at.is ∙ (c.id_at.ensures)) c.as_slice.ensures in
    let answers = c.in_ok-text.ensures.answers refl code.seats (actions.Call (calls.Deliver c.as_slice.result)) c.deliver-acted.ensures.acts world
    (arrives g.L.Link g.G.Log code world number datagram stands there) stands tt called in (
      delivery-tells g.L.Link g.G.Log code world number datagram stands there c.tell_acted.new.self c.pass_over.new.self c.note_delivery.new.self
          (string_bytes c.in_ok-text.text) answers.0 c.pass_over.ensures.datagrams c.pass_over.ensures.bytes c.pass_over.ensures.front
          c.note_delivery.ensures.datagrams c.note_delivery.ensures.bytes c.note_delivery.ensures.front,
      tt,
    )

pub returns-in_err-text-clause-counted : goal.returns-in_err-text-clause-counted
returns-in_err-text-clause-counted g c =
    let p = err_from_is_err_and c.from_residual.result c.from_residual.ensures.1 in
    rw (p.1, p.2) (c.in_err-text.ensures.counted c.args.self.now.seats (actions.Call (calls.Deliver c.as_slice.result)) c.deliver-acted.ensures.acts)

pub returns-clause-longer : goal.returns-clause-longer
returns-clause-longer g c =
    let passed = ap length c.pass_over.ensures.datagrams ∙ changed-length as_closed c.args.number c.tell_acted.new.self.traffic.datagrams.items in
    let noted = ap length c.note_delivery.ensures.datagrams ∙ changed-length as_delivered c.args.number c.pass_over.new.self.datagrams.items in
    omega (arith, passed, noted, c.in_ok-text.ensures.longer)
