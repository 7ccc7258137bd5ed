use Rattle.std.proofs.Common.{◌≡◌, ◌++◌}
use Rattle.std.specs.List.{flat_map, range_with_len}
use Rattle.cs_packet.specs.PacketField.{AreSends}
use Rattle.cs_lead.specs.Closing.{piece_of_slice, started}
use Rattle.cs_lead.proofs.leader.Leader.put_slice.Given as goal

-- the pieces of the colours so far
abbrev pub invariant-loop-colour : goal.invariant-loop-colour
invariant-loop-colour l = record {
  value : l.sends ≡ l.initial.sends ++ flat_map (λ colour. started l.self.me.id l.self.view (piece_of_slice l.slice colour)) (range_with_len 0 l.colour);
  allowed : AreSends l.initial.sends → AreSends l.sends;
}
