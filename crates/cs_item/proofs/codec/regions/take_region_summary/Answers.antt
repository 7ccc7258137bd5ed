use Rattle.std.proofs.Common.{arith}
use Rattle.cs_item.proofs.RegionLaws.{region_summary_taken}
use Rattle.cs_item.proofs.codec.regions.take_region_summary.Goals as goal

pub returns-clause-spelt : goal.returns-clause-spelt
returns-clause-spelt c =
    region_summary_taken c.args.least c.args.bytes.now c.args.at _ (λ i. omega (arith, c.type_inv.bytes i)) c.requires.within c.read_region_summary.ensures
