-- The coordinates of what has points, and their sum.
use Rattle.std.specs.Prelude.{ℤ, pos, ◌+ℤ◌, List, map}
use Rattle.std.specs.List.{fold}
use Rattle.cs_base.specs.Axes.{Axes, on_axis}
use Rattle.cs_base.specs.declared.point.Axis.{Axis}

-- the coordinates on an axis
abbrev pub coordinates : {T : Type 0} → (T → Axes) → Axis → List T → List ℤ
coordinates point axis ts = map (λ t. on_axis axis (point t)) ts

-- the sum of the numbers
abbrev pub total : List ℤ → ℤ
total ns = fold ◌+ℤ◌ (pos 0) ns
