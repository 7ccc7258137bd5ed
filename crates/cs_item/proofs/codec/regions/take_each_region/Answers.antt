use Rattle.std.proofs.Common.{◌≡◌, ℕ, ◌≤◌, ◌∙◌, arith}
use Rattle.std.proofs.lemmas.Result.{err_from_is_err_and}
use Rattle.cs_fields.specs.Counted.{above}
use Rattle.cs_fields.proofs.Loops.{goes_on, ends, is_done, IsAscendingBy-push, below-push}
use Rattle.cs_roll.specs.Summary.{RegionSummary}
use Rattle.cs_item.specs.Beside.{beside_from}
use Rattle.cs_item.specs.SummaryField.{summary_at}
use Rattle.cs_item.proofs.codec.regions.take_each_region.Goals as goal

abbrev region_of : ℕ × RegionSummary → ℕ
region_of pair = pair.0

pub returns-in_err-region : goal.returns-in_err-region
returns-in_err-region c =
    let p = err_from_is_err_and c.from_residual.result c.from_residual.ensures.1 in
    rw (p.1, p.2) (ends (beside_from summary_at) (above region_of) c.in_err-region.field-0.0 c.loop.regions c.args.count c.loop.counter c.loop.least
    c.args.bytes.now
    c.loop.place _ c.loop-test.true c.in_err-region.ensures.exact c.loop.invariant.so_far)

pub push-requires : goal.push-requires
push-requires c =
    IsAscendingBy-push region_of c.loop.least c.loop.regions _ c.loop.invariant.ascending c.loop.invariant.below
    c.in_ok-region.ensures.spelt.found.0.0.0

pub loop-preserved : goal.loop-preserved
loop-preserved c =
    let pair : ℕ × RegionSummary = (c.in_ok-region.region, c.in_ok-region.summary) in
    let taken = c.in_ok-region.ensures in
    let low : c.loop.least ≤ pair.0 = taken.spelt.found.0.0.0 in
    let next : c.from-least.result ≡ pair.0 = c.from-least.ensures ∙ c.get.ensures.value in
    rw (c.in_ok-push.ensures.ok, next) (record {
      so_far = goes_on (beside_from summary_at) (above region_of) c.loop.regions c.args.count c.loop.counter c.loop.least c.args.bytes.now c.loop.place pair
          c.in_ok-region.behind _ c.loop-test.true taken.exact c.loop.invariant.so_far;
      ascending = IsAscendingBy-push region_of c.loop.least c.loop.regions pair c.loop.invariant.ascending c.loop.invariant.below low;
      below = below-push region_of c.loop.least c.loop.regions pair c.loop.invariant.below low;
      within = taken.spelt.found.1.within;
      room = omega (arith, c.loop.invariant.room, taken.spelt.near);
    })

pub returns : goal.returns
returns c =
    rw c.in_ok-shared.ensures (is_done (beside_from summary_at) (above region_of) c.loop.regions c.args.count c.loop.counter c.loop.least
    c.args.bytes.now c.loop.place _ c.loop-test.false c.loop.invariant.so_far)
