use Rattle.std.proofs.Common.{arith}
use Rattle.cs_fields.proofs.Codec.{taken}
use Rattle.cs_packet.specs.RowsField.{rows_len}
use Rattle.cs_packet.proofs.RowsLaws.{rows_codec, rows_size}
use Rattle.cs_packet.proofs.codec.rows.take_rows.Goals as goal

pub returns-clause-spelt : goal.returns-clause-spelt
returns-clause-spelt c =
    taken rows_len c.args.bytes.now c.args.at _ rows_codec rows_size (λ i. omega (arith, c.type_inv.bytes i)) c.requires.within c.read_rows.ensures
