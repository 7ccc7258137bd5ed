use Rattle.std.proofs.Common.{arith, ◌∙◌, add-one, refl}
use Rattle.std.proofs.lemmas.List.{append-nil, take_all, drop_all}
use Rattle.cs_piece.proofs.Xor.{xored_front-more}
use Rattle.cs_piece.proofs.cutting.xor_into.Goals as goal

pub loop-i-preserved : goal.loop-i-preserved
loop-i-preserved c =
    let more = xored_front-more c.args.block.now c.args.other.now c.loop-i.i (omega arith) c.requires in
    rw (c.loop-i.invariant, add-one) more

pub returns : goal.returns
returns c =
    let x = c.args.block.now in
    let y = c.args.other.now in
    let front = take_all c.loop-i.i x (omega arith) in
    let other = take_all c.loop-i.i y (omega arith) in
    let rest = drop_all c.loop-i.i x (omega arith) in
    c.loop-i.invariant ∙ rw (front, other, rest, append-nil) refl
