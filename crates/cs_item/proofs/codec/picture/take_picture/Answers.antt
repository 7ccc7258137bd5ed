use Rattle.std.proofs.Common.{arith}
use Rattle.cs_item.proofs.PictureLaws.{picture_taken}
use Rattle.cs_item.proofs.codec.picture.take_picture.Goals as goal

pub returns-clause-spelt : goal.returns-clause-spelt
returns-clause-spelt c = picture_taken c.args.bytes.now c.args.at _ (λ i. omega (arith, c.type_inv.bytes i)) c.requires.within c.read_picture.ensures
