use Rattle.std.proofs.Common.{◌≡◌, take}
use Rattle.std.specs.Int.{int_min}
use Rattle.std.specs.List.{fold}
use Rattle.cs_base.specs.Axes.{on_axis, IsNear}
use Rattle.cs_base.specs.Limits.{farthest}
use Rattle.cs_base.proofs.points.lowest_on.Given as goal

-- the lowest of the first coordinate and of those so far, which is near 0
abbrev pub invariant-loop-t : goal.invariant-loop-t
invariant-loop-t g l = record {
  value : l.low ≡ fold (λ s t. int_min s (on_axis l.axis (g.T.HasPoint.point_of t))) l.initial.low (take l.t-index l.t-items);
  near : IsNear farthest l.low;
}
