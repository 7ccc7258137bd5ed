-- by the node's address
use Rattle.std.proofs.Common.{◌∙◌, sym}
use Rattle.cs_world.proofs.Naming.{addressed-named, unaddressed}
use Rattle.cs_world.proofs.nodes.Nodes.number_for.Goals as goal

pub returns-in_err-addr-clause-named : goal.returns-in_err-addr-clause-named
returns-in_err-addr-clause-named g c = λ world stands.
    c.from_residual.ensures
    ∙ unaddressed g.L.Link g.G.Log c.args.self.now world c.args.id c.args.bytes.now stands (sym c.address_of.ensures ∙ c.in_err-addr.was)

pub returns-clause-named : goal.returns-clause-named
returns-clause-named g c = λ world stands.
    c.number_for.ensures.least
    ∙ addressed-named g.L.Link g.G.Log c.args.self.now world c.args.id c.args.bytes.now stands c.in_ok-addr.addr
    (sym c.address_of.ensures ∙ c.in_ok-addr.was)
