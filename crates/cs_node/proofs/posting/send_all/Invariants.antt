-- the first datagrams are sent, and there is room for the others
use Rattle.cs_node.specs.Told.{link_told}
use Rattle.cs_node.proofs.Posted.{IsPostedTo}
use Rattle.cs_node.proofs.posting.send_all.Given as goal

abbrev pub invariant-loop-addr : goal.invariant-loop-addr
invariant-loop-addr g l =
    IsPostedTo l.sent l.addr-index l.datagrams (link_told g.L.Link l.fn.link) (link_told g.L.Link l.link) (g.L.Link.spare l.link)
