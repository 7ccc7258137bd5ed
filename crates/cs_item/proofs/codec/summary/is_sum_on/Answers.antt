use Rattle.std.proofs.Common.{◌≡◌, ◌*◌, ℤ, pos, ◌*ℤ◌, to_z, of_z, refl, ap, ◌∙◌, arith}
use Rattle.std.specs.Int.{w32, w64}
use Rattle.std.proofs.lemmas.Int.{ints}
use Rattle.cs_base.specs.Axes.{IsNear, on_axis}
use Rattle.cs_base.specs.Limits.{farthest, most_members}
use Rattle.cs_item.proofs.codec.summary.is_sum_on.Goals as goal

-- so many times the coordinate, as the code passes it on
kept : (n : ℤ) → IsNear (farthest * most_members) n → to_z w64 (of_z w64 n) ≡ n
kept n near = omega (arith, ints)

same : (n : ℤ) → IsNear farthest n → to_z w32 (of_z w32 n) ≡ n
same n near = omega (arith, ints)

pub returns : goal.returns
returns c =
    let by = λ (z : ℤ). pos c.args.size *ℤ z in
    let least : to_z w64 (of_z w64 c.times-least.result) ≡ pos c.args.size *ℤ on_axis c.args.axis c.args.low =
    kept _ c.times-least.ensures.near ∙ (c.times-least.ensures.value ∙ ap by (same _ c.axis.ensures.near ∙ c.axis.ensures.value)) in
    let most : to_z w64 (of_z w64 c.times-most.result) ≡ pos c.args.size *ℤ on_axis c.args.axis c.args.high =
    kept _ c.times-most.ensures.near ∙ (c.times-most.ensures.value ∙ ap by (same _ c.axis-2.ensures.near ∙ c.axis-2.ensures.value)) in
    let sum : to_z w64 (of_z w64 c.axis-3.result) ≡ on_axis c.args.axis c.args.sum = omega (arith, ints, c.axis-3.ensures) in
    c.is_between.ensures ∙ rw (least, most, sum) refl
