-- the link failed, or nothing was waiting, or the datagram is named
use Rattle.std.proofs.Common.{inr, Ok, Some, refl, subst}
use Rattle.std.proofs.lemmas.Result.{err_from_is_err_and}
use Rattle.cs_world.specs.Receiving.{ReceivesAt}
use Rattle.cs_world.proofs.Causes.{link-fault-counts, risen-some}
use Rattle.cs_world.proofs.Receivers.{received-stands}
use Rattle.cs_world.proofs.nodes.Nodes.receive.Goals as goal

pub returns-in_err-size-clause-counted : goal.returns-in_err-size-clause-counted
returns-in_err-size-clause-counted g c =
    let its = c.in_err-size.ensures.node in
    let p = err_from_is_err_and c.from_residual.result c.from_residual.ensures.1 in
    rw (p.1, p.2) (inr (link-fault-counts g.L.Link g.G.Log c.recv.new.self c.args.id its.1 its.3
    (risen-some its.0.link.faults its.1.link.faults its.4.link.failed)))

pub returns-clause-received : goal.returns-clause-received
returns-clause-received g c =
    let code = c.args.self.now in
    let received = subst (λ got. ReceivesAt g.L.Link g.G.Log c.args.id c.recv.new.buf (Ok got) code.seats c.recv.new.self)
    c.in-Some.is c.in_ok-size.ensures in
    record {
      answer = Ok (Some c.in-Some.size);
      seats = received;
      others = refl;
      said = λ world stands. c.event_for.ensures.named world
          (received-stands g.L.Link g.G.Log code c.recv.new.self world c.args.id c.recv.new.buf (Some c.in-Some.size) received stands);
    }

pub returns-clause-stands : goal.returns-clause-stands
returns-clause-stands g c = λ world stands.
    received-stands g.L.Link g.G.Log c.args.self.now c.recv.new.self world c.args.id c.recv.new.buf c.in_ok-size.field-0 c.in_ok-size.ensures
    stands
