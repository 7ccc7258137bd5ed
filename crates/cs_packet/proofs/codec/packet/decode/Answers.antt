use Rattle.std.proofs.Common.{arith}
use Rattle.cs_fields.proofs.Codec.{whole}
use Rattle.cs_packet.proofs.PacketLaws.{packet_codec}
use Rattle.cs_packet.proofs.codec.packet.decode.Goals as goal

pub returns-clause-whole : goal.returns-clause-whole
returns-clause-whole c = whole packet_codec c.args.bytes.now c.read_whole_packet.result (λ i. omega (arith, c.type_inv.bytes i)) c.read_whole_packet.ensures
