use Rattle.std.proofs.Common.{◌≤◌, sym, arith}
use Rattle.std.proofs.lemmas.Result.{err_from_is_err_and}
use Rattle.cs_fields.specs.Counted.{above}
use Rattle.cs_fields.specs.Numbers.{number_in}
use Rattle.cs_fields.proofs.Loops.{goes_on, ends, is_done, IsAscendingBy-push, below-push}
use Rattle.cs_fields.proofs.ids.take_each_number.Goals as goal

pub returns-in_err-n : goal.returns-in_err-n
returns-in_err-n c =
    let p = err_from_is_err_and c.from_residual.result c.from_residual.ensures.1 in
    rw (p.1, p.2) (ends (λ least. number_in 4 least c.args.last) (above (λ n. n)) c.in_err-n.field-0.0 c.loop.numbers c.args.count c.loop.counter c.loop.least
    c.args.bytes.now c.loop.place _ c.loop-test.true (λ _. sym c.in_err-n.ensures.exact) c.loop.invariant.so_far)

pub push-requires : goal.push-requires
push-requires c =
    IsAscendingBy-push (λ n. n) c.loop.least c.loop.numbers c.in_ok-n.n c.loop.invariant.ascending c.loop.invariant.below c.in_ok-n.ensures.spelt.found.0.0

pub loop-preserved : goal.loop-preserved
loop-preserved c =
    let n = c.in_ok-n.n in
    let taken = c.in_ok-n.ensures in
    let low : c.loop.least ≤ n = taken.spelt.found.0.0 in
    rw (c.in_ok-push.ensures.ok, c.from-least-in-loop.ensures) (record {
      so_far = goes_on (λ least. number_in 4 least c.args.last) (above (λ n. n)) c.loop.numbers c.args.count c.loop.counter c.loop.least c.args.bytes.now
          c.loop.place n c.in_ok-n.behind _ c.loop-test.true (sym taken.exact) c.loop.invariant.so_far;
      ascending = IsAscendingBy-push (λ n. n) c.loop.least c.loop.numbers n c.loop.invariant.ascending c.loop.invariant.below low;
      below = below-push (λ n. n) c.loop.least c.loop.numbers n c.loop.invariant.below low;
      within = taken.spelt.found.1.within;
      room = omega (arith, c.loop.invariant.room, taken.spelt.near);
    })

pub returns : goal.returns
returns c =
    is_done (λ least. number_in 4 least c.args.last) (above (λ n. n)) c.loop.numbers c.args.count c.loop.counter c.loop.least c.args.bytes.now c.loop.place _
    c.loop-test.false c.loop.invariant.so_far
