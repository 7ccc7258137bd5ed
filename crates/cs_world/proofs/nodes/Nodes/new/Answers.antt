-- without nodes
use Rattle.std.proofs.Common.{refl}
use Rattle.cs_world.proofs.Beginning.{empty-stands}
use Rattle.cs_world.proofs.nodes.Nodes.new.Goals as goal

pub returns-clause-stands : goal.returns-clause-stands
returns-clause-stands g c =
    empty-stands g.L.Link g.G.Log _ c.new.ensures.none c.new-2.ensures.ids c.new-2.ensures.addrs refl c.new-3.ensures.datagrams
    c.new-3.ensures.bytes c.new-3.ensures.front
