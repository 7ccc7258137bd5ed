use Rattle.std.proofs.Common.{arith}
use Rattle.cs_fields.proofs.Codec.{Gives-same, taken}
use Rattle.cs_fields.proofs.Fields.{mode_codec}
use Rattle.cs_fields.proofs.cut.take_mode.Goals as goal

pub returns-clause-spelt : goal.returns-clause-spelt
returns-clause-spelt c =
    taken 1 c.args.bytes.now c.args.at _ mode_codec (λ v _. omega arith)
    (λ i. omega (arith, c.type_inv.bytes i)) c.requires.within (Gives-same _ _ c.read_mode.ensures)
