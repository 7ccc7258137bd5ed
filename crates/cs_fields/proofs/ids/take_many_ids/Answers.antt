use Rattle.std.proofs.Common.{arith}
use Rattle.cs_base.specs.Limits.{most_together}
use Rattle.cs_base.specs.Ranges.{IsId}
use Rattle.cs_fields.specs.Fields.{many_ids_len}
use Rattle.cs_fields.proofs.Codec.{taken}
use Rattle.cs_fields.proofs.Lists.{many_ids_codec, numbers_size}
use Rattle.cs_fields.proofs.ids.take_many_ids.Goals as goal

pub returns-clause-spelt : goal.returns-clause-spelt
returns-clause-spelt c =
    taken many_ids_len c.args.bytes.now c.args.at _ many_ids_codec (numbers_size IsId 2 most_together)
    (λ i. omega (arith, c.type_inv.bytes i)) c.requires.within c.read_many_ids.ensures
