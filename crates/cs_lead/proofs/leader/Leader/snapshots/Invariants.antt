use Rattle.std.proofs.Common.{◌≡◌, map, take}
use Rattle.cs_packet.specs.PacketField.{AreSends}
use Rattle.cs_lead.specs.Closing.{snapshot_to}
use Rattle.cs_lead.proofs.leader.Leader.snapshots.Given as goal

-- the snapshots of the joiners so far
abbrev pub invariant-loop-joiner : goal.invariant-loop-joiner
invariant-loop-joiner l = record {
  value : l.sends ≡ map (snapshot_to l.self.me.id l.view.epoch l.turn.group) (take l.joiner-index l.joiner-items);
  allowed : AreSends l.sends;
}
