use Rattle.std.proofs.Common.{arith}
use Rattle.cs_item.proofs.SummaryLaws.{high_taken}
use Rattle.cs_item.proofs.codec.summary.take_high.Goals as goal

pub returns-clause-spelt : goal.returns-clause-spelt
returns-clause-spelt c =
    high_taken c.args.low c.args.bytes.now c.args.at _ c.requires.near (λ i. omega (arith, c.type_inv.bytes i)) c.requires.place.within c.read_high.ensures
