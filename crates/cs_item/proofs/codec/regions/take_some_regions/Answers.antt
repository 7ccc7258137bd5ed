use Rattle.std.proofs.Common.{arith}
use Rattle.cs_item.proofs.RegionLaws.{regions_taken}
use Rattle.cs_item.proofs.codec.regions.take_some_regions.Goals as goal

pub returns-clause-spelt : goal.returns-clause-spelt
returns-clause-spelt c =
    regions_taken c.args.least c.args.bytes.now c.args.at _ (λ i. omega (arith, c.type_inv.bytes i)) c.requires.within c.read_regions.ensures
