use Rattle.std.proofs.Common.{arith}
use Rattle.cs_fields.specs.Changes.{change_len}
use Rattle.cs_fields.proofs.Codec.{Gives-same, taken}
use Rattle.cs_fields.proofs.Changes.{change_codec, change_size}
use Rattle.cs_fields.proofs.change.take_change.Goals as goal

pub returns-clause-spelt : goal.returns-clause-spelt
returns-clause-spelt c =
    taken change_len c.args.bytes.now c.args.at _ change_codec (λ v _. change_size v) (λ i. omega (arith, c.type_inv.bytes i)) c.requires.within
    (Gives-same _ _ c.take_change_after.ensures.exact)
