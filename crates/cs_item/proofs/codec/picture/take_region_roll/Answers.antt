use Rattle.std.proofs.Common.{arith}
use Rattle.cs_item.proofs.PictureLaws.{region_roll_taken}
use Rattle.cs_item.proofs.codec.picture.take_region_roll.Goals as goal

pub returns-clause-spelt : goal.returns-clause-spelt
returns-clause-spelt c =
    region_roll_taken (record { least = c.args.least; room = c.args.room }) c.args.bytes.now c.args.at _ c.requires.few
    (λ i. omega (arith, c.type_inv.bytes i)) c.requires.place.within c.read_region_roll.ensures
