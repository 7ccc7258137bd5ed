use Rattle.std.proofs.Common.{◌≡◌, ◌≤◌, sym, ◌∙◌, arith}
use Rattle.std.proofs.lemmas.Result.{err_from_is_err_and}
use Rattle.cs_fields.specs.Counted.{above}
use Rattle.cs_fields.specs.Fields.{member_from}
use Rattle.cs_fields.proofs.Loops.{goes_on, ends, is_done, IsAscendingBy-push, below-push}
use Rattle.cs_roll.specs.Roll.{member_id}
use Rattle.cs_item.proofs.codec.roll.take_members.Goals as goal

pub returns-in_err-member : goal.returns-in_err-member
returns-in_err-member c =
    let p = err_from_is_err_and c.from_residual-in_err-member.result c.from_residual-in_err-member.ensures.1 in
    rw (p.1, p.2) (ends member_from (above member_id) c.in_err-member.field-0.0 c.loop.roll c.args.count c.loop.counter c.loop.least c.args.bytes.now
    c.loop.place _ c.loop-test.true (λ _. sym c.in_err-member.ensures.exact) c.loop.invariant.so_far)

pub push-requires : goal.push-requires
push-requires c =
    IsAscendingBy-push member_id c.loop.least c.loop.roll c.in_ok-member.member c.loop.invariant.ascending c.loop.invariant.below
    c.in_ok-member.ensures.spelt.found.0.id.0

pub loop-preserved : goal.loop-preserved
loop-preserved c =
    let m = c.in_ok-member.member in
    let taken = c.in_ok-member.ensures in
    let low : c.loop.least ≤ m.id = taken.spelt.found.0.id.0 in
    let next : c.from-least.result ≡ m.id = c.from-least.ensures ∙ c.get.ensures.value in
    rw (c.in_ok-push.ensures.ok, next) (record {
      so_far = goes_on member_from (above member_id) c.loop.roll c.args.count c.loop.counter c.loop.least c.args.bytes.now c.loop.place m
          c.in_ok-member.behind _ c.loop-test.true (sym taken.exact) c.loop.invariant.so_far;
      ascending = IsAscendingBy-push member_id c.loop.least c.loop.roll m c.loop.invariant.ascending c.loop.invariant.below low;
      below = below-push member_id c.loop.least c.loop.roll m c.loop.invariant.below low;
      least = omega arith;
      within = taken.spelt.found.1.within;
      room = omega (arith, c.loop.invariant.room, taken.spelt.near);
    })

pub returns : goal.returns
returns c =
    is_done member_from (above member_id) c.loop.roll c.args.count c.loop.counter c.loop.least c.args.bytes.now c.loop.place _ c.loop-test.false
    c.loop.invariant.so_far
