-- none so far is the one
use Rattle.std.proofs.Common.{◌≡◌}
use Rattle.std.specs.List.{filter, find}
use Rattle.cs_world.proofs.Searches.{is_behind, is_one}
use Rattle.cs_world.proofs.traffic.Traffic.least_in.Given as goal

abbrev pub invariant-loop-hashed : goal.invariant-loop-hashed
invariant-loop-hashed l =
    find (is_one l.addr l.bytes l.self.datagrams.items) l.hashed-iterator
    ≡ find (is_one l.addr l.bytes l.self.datagrams.items) (filter (is_behind l.hash) l.set.keys)
