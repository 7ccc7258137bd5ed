-- the hash goes on behind the bytes so far
use Rattle.std.proofs.Common.{◌≡◌, drop}
use Rattle.cs_world.specs.Indexed.{hash_behind}
use Rattle.cs_world.proofs.index.hash_of.Given as goal

abbrev pub invariant-loop-byte : goal.invariant-loop-byte
invariant-loop-byte l = hash_behind l.hash (drop l.byte-index l.bytes) ≡ hash_behind l.before l.bytes
