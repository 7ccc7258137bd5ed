use Rattle.std.proofs.Common.{◌≡◌, ◌*◌, pos, neg_ℤ, ◌+ℤ◌, ◌≤ℤ◌, take}
use Rattle.std.specs.List.{fold, AllByRecursion}
use Rattle.cs_base.specs.Axes.{on_axis, IsNear}
use Rattle.cs_base.specs.Limits.{farthest}
use Rattle.cs_base.proofs.points.total_on.Given as goal

-- the sum so far is that of the members so far, each of which adds little
abbrev pub invariant-loop-t : goal.invariant-loop-t
invariant-loop-t g l = record {
  value : l.sum ≡ fold (λ s m. s +ℤ on_axis l.axis (g.T.HasPoint.point_of m)) (pos 0) (take l.t-index l.ts);
  at_least : neg_ℤ (pos (farthest * l.t-index)) ≤ℤ l.sum;
  at_most : l.sum ≤ℤ pos (farthest * l.t-index);
  near : AllByRecursion (λ m. IsNear farthest (on_axis l.axis (g.T.HasPoint.point_of m))) (take l.t-index l.ts);
}
