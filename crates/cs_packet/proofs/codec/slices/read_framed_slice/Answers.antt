use Rattle.std.proofs.Common.{refl, arith}
use Rattle.cs_packet.proofs.SlicesLaws.{framed_damaged, framed_ended, framed_read, framed_small}
use Rattle.cs_packet.proofs.codec.slices.read_framed_slice.Goals as goal

pub returns-then-rest-size : goal.returns-then-rest-size
returns-then-rest-size c other =
    framed_ended c.args.bytes.now c.args.at c.in_ok-size.size c.in_ok-size.text_at c.in_ok-size.ensures.exact c.in_ok-size.ensures.spelt.found.1.within
    c.if-rest-size.true

pub overflow_add-result : goal.overflow_add-result
overflow_add-result c =
    let is_slice = c.in-Ok.ensures.whole.found in
    let small = framed_small c.args.bytes.now c.args.at c.in_ok-size.size c.in_ok-size.text_at _ c.in_ok-size.ensures.exact
    c.in_ok-size.ensures.spelt.found.1.within c.if-rest-size.false refl c.in-Ok.slice is_slice.0 is_slice.1 in
    omega (arith, small, c.requires.room, c.in_ok-size.ensures.spelt.near)

pub returns-in-Ok : goal.returns-in-Ok
returns-in-Ok c =
    framed_read c.args.bytes.now c.args.at c.in_ok-size.size c.in_ok-size.text_at _ c.in_ok-size.ensures.exact
    c.in_ok-size.ensures.spelt.found.1.within c.if-rest-size.false refl c.in-Ok.slice c.in-Ok.ensures.exact

pub returns-in_default : goal.returns-in_default
returns-in_default c other =
    framed_damaged c.args.bytes.now c.args.at c.in_ok-size.size c.in_ok-size.text_at _ c.in_ok-size.ensures.exact
    c.in_ok-size.ensures.spelt.found.1.within c.if-rest-size.false refl c.in-Err.fault (c.in-Err.ensures.exact c.in_default.not-Memory)
