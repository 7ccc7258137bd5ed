use Rattle.std.proofs.Common.{arith}
use Rattle.cs_fields.proofs.Codec.{taken}
use Rattle.cs_packet.specs.SlicesField.{framed_slice_len}
use Rattle.cs_packet.proofs.SlicesLaws.{framed_slice_size, slice_from_codec}
use Rattle.cs_packet.proofs.codec.slices.take_slice_from.Goals as goal

pub returns-clause-spelt : goal.returns-clause-spelt
returns-clause-spelt c =
    taken framed_slice_len c.args.bytes.now c.args.at _ (slice_from_codec c.args.least) (λ s is. framed_slice_size s is.1)
    (λ i. omega (arith, c.type_inv.bytes i)) c.requires.within
    c.read_slice_from.ensures
