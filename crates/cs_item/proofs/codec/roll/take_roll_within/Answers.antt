use Rattle.std.proofs.Common.{arith}
use Rattle.cs_item.proofs.RollLaws.{roll_taken}
use Rattle.cs_item.proofs.codec.roll.take_roll_within.Goals as goal

pub returns-clause-spelt : goal.returns-clause-spelt
returns-clause-spelt c =
    roll_taken c.args.room c.args.bytes.now c.args.at _ c.requires.few (λ i. omega (arith, c.type_inv.bytes i)) c.requires.place.within c.read_roll.ensures
