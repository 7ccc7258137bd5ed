use Rattle.std.proofs.Common.{◌≡◌, to_z, of_z, w32, ap, sym, subst, ◌∙◌, arith}
use Rattle.std.specs.Int.{int_max}
use Rattle.std.proofs.lemmas.Int.{ints}
use Rattle.cs_base.specs.Axes.{on_axis, IsNear}
use Rattle.cs_base.specs.Limits.{farthest}
use Rattle.cs_base.proofs.Bounds.{fold_next, highest_rest, IsNear-max}
use Rattle.cs_base.proofs.points.highest_on.Goals as goal

-- one more coordinate
pub loop-t-preserved : goal.loop-t-preserved
loop-t-preserved g c =
    let point = g.T.HasPoint.point_of in
    let t = c.t-item.result in
    let before = c.loop-t.invariant in
    let next = fold_next (λ u. on_axis c.args.axis (point u)) int_max _ _ _ _ t c.loop-t-test.true c.t-item.is before.value in
    let read : to_z w32 (of_z w32 c.coordinate.result) ≡ on_axis c.args.axis (point t) = omega (arith, ints, c.coordinate.ensures.value) in
    let kept : to_z w32 (of_z w32 c.max-high.result) ≡ c.max-high.result = omega (arith, ints) in
    let here : IsNear farthest (to_z w32 (of_z w32 c.coordinate.result)) =
    subst (IsNear farthest) (sym (read ∙ sym c.coordinate.ensures.value)) c.coordinate.ensures.near in
    let near = IsNear-max farthest _ _ before.near here in
    record {
      value = kept ∙ (c.max-high.ensures.value ∙ (ap (int_max _) read ∙ next));
      near = subst (IsNear farthest) (sym (kept ∙ c.max-high.ensures.value)) near;
    }

-- after the last one the fold is that of all coordinates
pub returns : goal.returns
returns g c =
    let point = g.T.HasPoint.point_of in
    let first = c.index-ts-0.result in
    let begins : to_z w32 (of_z w32 c.coordinate-high.result) ≡ on_axis c.args.axis (point first) =
    omega (arith, ints, c.coordinate-high.ensures.value) in
    record {
      value = highest_rest (λ t. on_axis c.args.axis (point t)) first c.args.ts.now _ _ _ c.requires c.index-ts-0.is c.loop-t-test.false begins
          c.loop-t.invariant.value;
      near = c.loop-t.invariant.near;
    }
