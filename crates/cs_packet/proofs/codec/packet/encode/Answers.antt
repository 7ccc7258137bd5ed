use Rattle.std.proofs.Common.{arith, ap, length}
use Rattle.std.proofs.lemmas.List.{length-append}
use Rattle.cs_fields.proofs.Codec.{spelt_once}
use Rattle.cs_packet.specs.PacketField.{packet_bytes}
use Rattle.cs_packet.proofs.PacketLaws.{packet_codec, packet_size}
use Rattle.cs_packet.proofs.codec.packet.encode.Goals as goal

pub returns-clause-short : goal.returns-clause-short
returns-clause-short c =
    omega (
      arith,
      packet_size c.args.p.now c.requires,
      ap length c.from_vec.ensures,
      ap length c.in_ok-append_packet.ensures,
      ap length c.in_ok-out.ensures.items,
      length-append c.in_ok-out.out.items (packet_bytes c.args.p.now),
    )

pub returns-in_err-out-clause-one : goal.returns-in_err-out-clause-one
returns-in_err-out-clause-one c q is_q same = spelt_once packet_codec c.args.p.now q c.requires is_q same

pub returns-in_err-append_packet-clause-one : goal.returns-in_err-append_packet-clause-one
returns-in_err-append_packet-clause-one c q is_q same = spelt_once packet_codec c.args.p.now q c.requires is_q same

pub returns-clause-one : goal.returns-clause-one
returns-clause-one c q is_q same = spelt_once packet_codec c.args.p.now q c.requires is_q same
