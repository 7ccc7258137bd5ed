-- the datagrams of the packets so far
use Rattle.std.proofs.Common.{◌≡◌, take}
use Rattle.cs_node.specs.Posting.{datagrams_of}
use Rattle.cs_node.proofs.posting.datagrams.Given as goal

abbrev pub invariant-loop-addr : goal.invariant-loop-addr
invariant-loop-addr l = l.list.items ≡ datagrams_of (take l.addr-index l.sends)
