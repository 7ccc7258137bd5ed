use Rattle.std.proofs.Common.{arith}
use Rattle.cs_fields.proofs.Codec.{Gives-same, taken}
use Rattle.cs_packet.specs.RowsField.{row_len}
use Rattle.cs_packet.proofs.RowsLaws.{row_codec, row_size}
use Rattle.cs_packet.proofs.codec.rows.take_row_after.Goals as goal

pub returns-clause-spelt : goal.returns-clause-spelt
returns-clause-spelt c =
    taken row_len c.args.bytes.now c.args.at _ (row_codec c.args.before) (λ r is. row_size r) (λ i. omega (arith, c.type_inv.bytes i)) c.requires.within
    (Gives-same _ _ c.read_row_after.ensures)
