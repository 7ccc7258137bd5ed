-- without nodes
use Rattle.std.proofs.Common.{refl}
use Rattle.cs_world.proofs.Beginning.{empty-stands}
use Rattle.cs_world.proofs.nodes.Nodes.receiving.Goals as goal

pub returns-clause-stands : goal.returns-clause-stands
returns-clause-stands g c =
    empty-stands g.L.Link g.G.Log _ c.new.ensures.none c.new-2.ensures.ids c.new-2.ensures.addrs refl c.indexed.ensures.datagrams
    c.indexed.ensures.bytes c.indexed.ensures.front
