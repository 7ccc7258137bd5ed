-- No packet is spelled by no bytes.
use Rattle.std.proofs.Common.{◌<◌, ◌∷◌, length, arith}
use Rattle.cs_fields.proofs.Codec.{sum-cons}
use Rattle.cs_packet.specs.BodyField.{body_sizes}
use Rattle.cs_packet.specs.PacketField.{IsPacket, packet_bytes}
use Rattle.cs_packet.specs.declared.packet.Packet.{Packet}
use Rattle.cs_packet.proofs.PacketLaws.{packet_codec}

-- a packet's bytes begin with its version
pub packet-some : (p : Packet) → IsPacket p → 0 < length (packet_bytes p)
packet-some p is = omega (arith, packet_codec.sized p is, sum-cons 1 (1 ∷ 4 ∷ 4 ∷ body_sizes p.body))
