-- the bytes of the datagrams so far
use Rattle.std.proofs.Common.{◌≡◌, take}
use Rattle.cs_node.specs.Posting.{bytes_in}
use Rattle.cs_node.proofs.posting.bytes_in.Given as goal

abbrev pub invariant-loop-bytes : goal.invariant-loop-bytes
invariant-loop-bytes l = l.size ≡ bytes_in (take l.bytes-index l.datagrams)
