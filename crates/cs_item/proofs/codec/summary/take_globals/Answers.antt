use Rattle.std.proofs.Common.{arith}
use Rattle.cs_item.proofs.SummaryLaws.{globals_taken}
use Rattle.cs_item.proofs.codec.summary.take_globals.Goals as goal

pub returns-clause-spelt : goal.returns-clause-spelt
returns-clause-spelt c =
    globals_taken c.args.size c.args.bytes.now c.args.at _ (λ i. omega (arith, c.type_inv.bytes i)) c.requires.within c.read_globals.ensures
