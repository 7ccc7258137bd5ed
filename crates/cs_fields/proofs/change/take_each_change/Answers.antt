use Rattle.std.proofs.Common.{sym, arith}
use Rattle.std.proofs.lemmas.Result.{err_from_is_err_and}
use Rattle.cs_fields.specs.Changes.{change_after, with_change}
use Rattle.cs_fields.proofs.Loops.{goes_on, ends, is_done}
use Rattle.cs_fields.proofs.change.take_each_change.Goals as goal

pub returns-in_err-change : goal.returns-in_err-change
returns-in_err-change c =
    let p = err_from_is_err_and c.from_residual.result c.from_residual.ensures.1 in
    rw (p.1, p.2) (ends change_after with_change c.in_err-change.field-0.0 c.loop.changes c.args.count c.loop.counter c.loop.changes c.args.bytes.now
    c.loop.place _ c.loop-test.true (λ _. rw (← c.as_slice.ensures) (sym c.in_err-change.ensures.exact)) c.loop.invariant.so_far)

pub loop-preserved : goal.loop-preserved
loop-preserved c =
    let taken = c.in_ok-change.ensures in
    rw c.in_ok-push.ensures.ok (record {
      so_far = goes_on change_after with_change c.loop.changes c.args.count c.loop.counter c.loop.changes c.args.bytes.now c.loop.place c.in_ok-change.change
          c.in_ok-change.behind _ c.loop-test.true (rw (← c.as_slice.ensures) (sym taken.exact)) c.loop.invariant.so_far;
      within = taken.spelt.found.1.within;
      room = omega (arith, c.loop.invariant.room, taken.spelt.near);
    })

pub returns : goal.returns
returns c =
    is_done change_after with_change c.loop.changes c.args.count c.loop.counter c.loop.changes c.args.bytes.now c.loop.place _ c.loop-test.false
    c.loop.invariant.so_far
