use Rattle.std.proofs.Common.{arith}
use Rattle.cs_base.specs.Limits.{most_changes}
use Rattle.cs_base.specs.Ranges.{IsId}
use Rattle.cs_fields.specs.Fields.{ids_len}
use Rattle.cs_fields.proofs.Codec.{taken}
use Rattle.cs_fields.proofs.Lists.{ids_codec, numbers_size}
use Rattle.cs_fields.proofs.ids.take_ids.Goals as goal

pub returns-clause-spelt : goal.returns-clause-spelt
returns-clause-spelt c =
    taken ids_len c.args.bytes.now c.args.at _ ids_codec (numbers_size IsId 1 most_changes)
    (λ i. omega (arith, c.type_inv.bytes i)) c.requires.within c.take_numbers.ensures
