use Rattle.std.proofs.Common.{arith}
use Rattle.cs_item.proofs.SliceLaws.{slice_taken}
use Rattle.cs_item.proofs.codec.slice.take_slice.Goals as goal

pub returns-clause-spelt : goal.returns-clause-spelt
returns-clause-spelt c =
    slice_taken c.args.bytes.now c.args.at _ (λ i. omega (arith, c.type_inv.bytes i)) c.requires.within c.read_slice.ensures
