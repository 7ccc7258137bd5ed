use Rattle.std.proofs.Common.{pos, ◌+ℤ◌, subst, arith}
use Rattle.std.proofs.lemmas.Int.{ints}
use Rattle.cs_base.specs.Axes.{on_axis, IsNear}
use Rattle.cs_base.specs.Limits.{farthest}
use Rattle.cs_base.proofs.Bounds.{fold_next, AllByRecursion-next}
use Rattle.cs_base.proofs.points.total_on.Goals as goal

-- one more coordinate, which is near 0
pub loop-t-preserved : goal.loop-t-preserved
loop-t-preserved g c =
    let xs = c.args.ts.now in
    let i = c.loop-t.t-index in
    let m = c.t-item.result in
    let before = c.loop-t.invariant in
    let next = fold_next (λ t. on_axis c.args.axis (g.T.HasPoint.point_of t)) ◌+ℤ◌ (pos 0) _ xs i m c.loop-t-test.true c.t-item.is before.value in
    record {
      value = omega (arith, ints, next, c.coordinate.ensures.value);
      at_least = omega (arith, ints);
      at_most = omega (arith, ints);
      near = AllByRecursion-next (λ t. IsNear farthest (on_axis c.args.axis (g.T.HasPoint.point_of t))) xs i m c.loop-t-test.true c.t-item.is before.near
          (subst (IsNear farthest) c.coordinate.ensures.value c.coordinate.ensures.near);
    }
