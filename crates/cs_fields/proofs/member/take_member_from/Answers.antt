use Rattle.std.proofs.Common.{arith}
use Rattle.cs_fields.specs.Fields.{member_len}
use Rattle.cs_fields.proofs.Codec.{Gives-same, taken}
use Rattle.cs_fields.proofs.Fields.{member_codec}
use Rattle.cs_fields.proofs.member.take_member_from.Goals as goal

pub returns-clause-spelt : goal.returns-clause-spelt
returns-clause-spelt c =
    taken member_len c.args.bytes.now c.args.at _ (member_codec c.args.least) (λ v _. omega arith)
    (λ i. omega (arith, c.type_inv.bytes i)) c.requires.place.within
    (Gives-same _ _ c.read_member.ensures)
