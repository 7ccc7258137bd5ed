use Rattle.std.proofs.Common.{◌≡◌, ℕ, ◌≤◌, List, length, ◌∙◌, arith}
use Rattle.std.proofs.lemmas.Result.{err_from_is_err_and}
use Rattle.cs_base.specs.declared.member.Member.{Member}
use Rattle.cs_fields.proofs.Loops.{goes_on, ends, is_done, IsAscendingBy-push, below-push}
use Rattle.cs_item.specs.PictureField.{left_after, region_roll_after}
use Rattle.cs_item.proofs.PictureLaws.{region_roll_size}
use Rattle.cs_item.proofs.RegionLaws.{beside_codec}
use Rattle.cs_item.proofs.RollLaws.{roll_codec}
use Rattle.cs_item.proofs.codec.picture.take_each_roll.Goals as goal

abbrev region_of : ℕ × List Member → ℕ
region_of pair = pair.0

pub returns-in_err-region : goal.returns-in_err-region
returns-in_err-region c =
    let p = err_from_is_err_and c.from_residual.result c.from_residual.ensures.1 in
    rw (p.1, p.2) (ends region_roll_after left_after c.in_err-region.field-0.0 c.loop.rolls c.args.count c.loop.counter
    (record { least = c.loop.least; room = c.loop.room }) c.args.bytes.now
    c.loop.place _ c.loop-test.true c.in_err-region.ensures.exact c.loop.invariant.so_far)

pub push-requires : goal.push-requires
push-requires c =
    IsAscendingBy-push region_of c.loop.least c.loop.rolls _ c.loop.invariant.ascending c.loop.invariant.below
    c.in_ok-region.ensures.spelt.found.0.0.0

pub loop-preserved : goal.loop-preserved
loop-preserved c =
    let pair : ℕ × List Member = (c.in_ok-region.region, c.in_ok-region.roll) in
    let taken = c.in_ok-region.ensures in
    let low : c.loop.least ≤ pair.0 = taken.spelt.found.0.0.0 in
    let sized = (beside_codec (roll_codec c.loop.room c.loop.invariant.few) c.loop.least).sized pair taken.spelt.found.0 in
    let size = region_roll_size pair (length pair.1) taken.spelt.found.0.1.allowed (omega arith) in
    let fits : length pair.1 ≤ c.loop.room = taken.spelt.found.0.1.few in
    let next : c.from-least.result ≡ pair.0 = c.from-least.ensures ∙ c.get.ensures.value in
    let len : c.len.result ≡ length pair.1 = c.len.ensures in
    rw (c.in_ok-push.ensures.ok, next, len) (record {
      so_far = goes_on region_roll_after left_after c.loop.rolls c.args.count c.loop.counter (record { least = c.loop.least; room = c.loop.room })
          c.args.bytes.now c.loop.place pair c.in_ok-region.behind _ c.loop-test.true taken.exact c.loop.invariant.so_far;
      ascending = IsAscendingBy-push region_of c.loop.least c.loop.rolls pair c.loop.invariant.ascending c.loop.invariant.below low;
      below = below-push region_of c.loop.least c.loop.rolls pair c.loop.invariant.below low;
      few = omega (arith, c.loop.invariant.few);
      within = taken.spelt.found.1.within;
      room = omega (arith, c.loop.invariant.room, taken.spelt.found.1.ends, sized, size, fits);
    })

pub returns : goal.returns
returns c =
    rw c.in_ok-shared.ensures (is_done region_roll_after left_after c.loop.rolls c.args.count c.loop.counter
    (record { least = c.loop.least; room = c.loop.room }) c.args.bytes.now c.loop.place _ c.loop-test.false c.loop.invariant.so_far)
