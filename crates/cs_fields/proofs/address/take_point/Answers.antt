use Rattle.std.proofs.Common.{arith}
use Rattle.cs_fields.proofs.Codec.{Gives-same, taken}
use Rattle.cs_fields.proofs.Fields.{point_codec}
use Rattle.cs_fields.proofs.address.take_point.Goals as goal

pub returns-clause-spelt : goal.returns-clause-spelt
returns-clause-spelt c =
    taken 12 c.args.bytes.now c.args.at _ point_codec (λ v _. omega arith)
    (λ i. omega (arith, c.type_inv.bytes i)) c.requires.within (Gives-same _ _ c.read_point.ensures)
