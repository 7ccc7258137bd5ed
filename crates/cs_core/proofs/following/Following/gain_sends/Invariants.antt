use Rattle.std.proofs.Common.{◌≡◌, take}
use Rattle.std.specs.List.{flat_map}
use Rattle.cs_packet.specs.PacketField.{AreSends}
use Rattle.cs_core.specs.Taking.{gained_sends}
use Rattle.cs_core.proofs.following.Following.gain_sends.Given as goal

-- the pieces of the colours so far are on their way
abbrev pub invariant-loop-colour : goal.invariant-loop-colour
invariant-loop-colour l = record {
  value : l.sends ≡ flat_map (gained_sends l.own l.self l.gain) (take l.colour-index l.gain.colours);
  allowed : AreSends l.sends;
}
