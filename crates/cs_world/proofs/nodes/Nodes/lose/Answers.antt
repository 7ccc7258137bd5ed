-- a packet that is there is passed over
use Rattle.std.proofs.Common.{◌∷◌, codes, not, refl, sym, ap, ◌∙◌}
use Rattle.std.specs.Option.{option_copied}
use Rattle.cs_machine.specs.Delivering.{lost, passed_over, sent_at}
use Rattle.cs_machine.proofs.Settles.{passed_over-keeps}
use Rattle.cs_world.proofs.Answering.{line-answers}
use Rattle.cs_world.proofs.Deliveries.{found-packet, unnumbered}
use Rattle.cs_world.proofs.Options.{absent_none}
use Rattle.cs_world.proofs.Passing.{numbers-stands, passed-traffic}
use Rattle.cs_world.proofs.nodes.Nodes.lose.Goals as goal

pub returns-then-is_none-clause-answers : goal.returns-then-is_none-clause-answers
returns-then-is_none-clause-answers g c = λ world stands.
    let code = c.args.self.now in
    line-answers g.L.Link g.G.Log code world (codes "no packet") c.line.result
    (lost world c.args.number (sent_at world c.args.number)) stands c.line.ensures.text c.line.ensures.memory
    (ap (lost world c.args.number) (unnumbered world code.traffic.datagrams.items c.args.number stands.traffic.packets
    (sym c.get.ensures ∙ ap option_copied (absent_none c.get.result (c.is_none.ensures ∙ ap not c.if-is_none.true)))))

pub returns-clause-answers : goal.returns-clause-answers
returns-clause-answers g c = λ world stands.
    let code = c.args.self.now in
    let number = c.args.number in
    let later = record code { traffic = c.pass_over.new.self } in
    let found = found-packet world code.traffic.datagrams.items number stands.traffic.packets c.get.result c.get.ensures
    (c.is_none.ensures ∙ ap not c.if-is_none.false) in
    let next = passed_over number world in
    line-answers g.L.Link g.G.Log later next (codes "lost") c.line-2.result (lost world number (sent_at world number))
    (numbers-stands g.L.Link g.G.Log code later world (number ∷ world.settled) world.delivered stands
    (passed_over-keeps world number found.0 stands.reached found.1).reached refl refl refl
    (passed-traffic code.traffic c.pass_over.new.self world number stands.traffic
    c.pass_over.ensures.datagrams c.pass_over.ensures.bytes c.pass_over.ensures.front))
    c.line-2.ensures.text c.line-2.ensures.memory (ap (lost world number) found.1)
