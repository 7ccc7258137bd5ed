-- The sum of some points.
use Rattle.std.specs.Prelude.{List, length}
use Rattle.cs_base.specs.Axes.{Axes}
use Rattle.cs_base.specs.Points.{coordinates, total}
use Rattle.cs_base.specs.Total.{Total}
use Rattle.cs_base.specs.declared.point.Axis.TheVariants.{X, Y, Z}

-- a point, as the sum of one
abbrev pub one_point : Axes → Total
one_point p = record { count = 1; sums = p }

-- how many points there are, and their sum on each axis
abbrev pub sum_of_points : {T : Type 0} → (T → Axes) → List T → Total
sum_of_points point ts = record {
  count = length ts;
  sums = record {
    x = total (coordinates point X ts);
    y = total (coordinates point Y ts);
    z = total (coordinates point Z ts);
  };
}
