use Rattle.std.proofs.Common.{arith}
use Rattle.cs_item.proofs.SliceLaws.{head_taken}
use Rattle.cs_item.proofs.codec.slice.take_head.Goals as goal

pub returns-clause-spelt : goal.returns-clause-spelt
returns-clause-spelt c =
    head_taken c.args.epoch c.args.bytes.now c.args.at _ (λ i. omega (arith, c.type_inv.bytes i)) c.requires.within c.read_head.ensures
