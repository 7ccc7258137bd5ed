use Rattle.std.proofs.Common.{arith}
use Rattle.cs_base.specs.Limits.{most_regions}
use Rattle.cs_base.specs.Ranges.{IsRegion}
use Rattle.cs_fields.specs.Fields.{region_list_len}
use Rattle.cs_fields.proofs.Codec.{taken}
use Rattle.cs_fields.proofs.Lists.{numbers_size, region_list_codec}
use Rattle.cs_fields.proofs.ids.take_region_list.Goals as goal

pub returns-clause-spelt : goal.returns-clause-spelt
returns-clause-spelt c =
    taken region_list_len c.args.bytes.now c.args.at _ region_list_codec (numbers_size IsRegion 1 most_regions)
    (λ i. omega (arith, c.type_inv.bytes i)) c.requires.within
    c.take_numbers.ensures
