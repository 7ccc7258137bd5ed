-- the packets so far are told and kept behind those that were sent before, and settling is where it was
use Rattle.std.proofs.Common.{◌≡◌, ◌-◌, ◌≤◌, List, length, take}
use Rattle.std.specs.String.{string_bytes}
use Rattle.cs_base.specs.Address.{Address}
use Rattle.cs_packet.specs.declared.packet.Packet.{Packet}
use Rattle.cs_world.specs.Posting.{ArePackets, IsSentBehind, Posts}
use Rattle.cs_world.proofs.posting.post_all.Given as goal

abbrev pub invariant-loop-place : goal.invariant-loop-place
invariant-loop-place g l = ((sends : List (Address × Packet)) → ArePackets sends → IsSentBehind l.earlier sends (g.L.Link.sent l.link)
    → Posts l.telling (take (l.place - l.earlier) sends) l.initial.traffic l.traffic (string_bytes l.initial.out) (string_bytes l.out))
    × (l.traffic.front ≡ l.initial.traffic.front) × (length l.initial.traffic.datagrams.items ≤ length l.traffic.datagrams.items)
