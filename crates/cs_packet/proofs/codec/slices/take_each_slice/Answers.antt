use Rattle.std.proofs.Common.{◌≡◌, ◌≤◌, ◌∙◌, arith}
use Rattle.std.proofs.lemmas.Result.{err_from_is_err_and}
use Rattle.cs_fields.specs.Counted.{above}
use Rattle.cs_fields.proofs.Loops.{goes_on, ends, is_done, IsAscendingBy-push, below-push}
use Rattle.cs_packet.specs.SlicesField.{region_of_slice, slice_from}
use Rattle.cs_packet.proofs.codec.slices.take_each_slice.Goals as goal

pub returns-in_err-slice : goal.returns-in_err-slice
returns-in_err-slice c =
    let p = err_from_is_err_and c.from_residual.result c.from_residual.ensures.1 in
    rw (p.1, p.2) (ends slice_from (above region_of_slice) c.in_err-slice.field-0.0 c.loop.slices c.args.count c.loop.counter c.loop.least
    c.args.bytes.now c.loop.place _ c.loop-test.true c.in_err-slice.ensures.exact c.loop.invariant.so_far)

pub push-requires : goal.push-requires
push-requires c =
    IsAscendingBy-push region_of_slice c.loop.least c.loop.slices c.in_ok-slice.slice c.loop.invariant.ascending c.loop.invariant.below
    c.in_ok-slice.ensures.spelt.found.0.0

pub loop-preserved : goal.loop-preserved
loop-preserved c =
    let s = c.in_ok-slice.slice in
    let taken = c.in_ok-slice.ensures in
    let low : c.loop.least ≤ region_of_slice s = taken.spelt.found.0.0 in
    let next : c.from-least.result ≡ region_of_slice s = c.from-least.ensures ∙ c.key.ensures.value in
    rw (c.in_ok-push.ensures.ok, next) (record {
      so_far = goes_on slice_from (above region_of_slice) c.loop.slices c.args.count c.loop.counter c.loop.least c.args.bytes.now c.loop.place s
          c.in_ok-slice.behind _ c.loop-test.true taken.exact c.loop.invariant.so_far;
      ascending = IsAscendingBy-push region_of_slice c.loop.least c.loop.slices s c.loop.invariant.ascending c.loop.invariant.below low;
      below = below-push region_of_slice c.loop.least c.loop.slices s c.loop.invariant.below low;
      within = taken.spelt.found.1.within;
      room = omega (arith, c.loop.invariant.room, taken.spelt.near);
    })

pub returns : goal.returns
returns c =
    is_done slice_from (above region_of_slice) c.loop.slices c.args.count c.loop.counter c.loop.least c.args.bytes.now c.loop.place _ c.loop-test.false
    c.loop.invariant.so_far
