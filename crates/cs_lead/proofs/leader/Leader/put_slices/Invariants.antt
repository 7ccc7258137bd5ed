use Rattle.std.proofs.Common.{◌≡◌, ◌++◌, take}
use Rattle.std.specs.List.{flat_map}
use Rattle.cs_packet.specs.PacketField.{AreSends}
use Rattle.cs_lead.specs.Closing.{slice_sends}
use Rattle.cs_lead.proofs.leader.Leader.put_slices.Given as goal

-- the pieces of the slices so far
abbrev pub invariant-loop-slice : goal.invariant-loop-slice
invariant-loop-slice l = record {
  value : l.sends ≡ l.initial.sends ++ flat_map (slice_sends l.self.me.id l.self.view) (take l.slice-index l.slice-items);
  allowed : AreSends l.initial.sends → AreSends l.sends;
}
