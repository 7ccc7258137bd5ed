-- The axis on which some points are spread most widely.
use Rattle.std.specs.Prelude.{ℤ, ◌-ℤ◌, int_le, ◌&&◌, List, if◌then◌else◌}
use Rattle.cs_base.specs.Axes.{Axes}
use Rattle.cs_base.specs.Bounds.{lowest, highest}
use Rattle.cs_base.specs.declared.point.Axis.{Axis}
use Rattle.cs_base.specs.declared.point.Axis.TheVariants.{X, Y, Z}
use Rattle.cs_base.specs.Points.{coordinates}

-- the difference of the highest and the lowest coordinate on an axis
abbrev pub spread : {T : Type 0} → (T → Axes) → Axis → List T → ℤ
spread point axis ts = highest (coordinates point axis ts) -ℤ lowest (coordinates point axis ts)

-- the first axis with the greatest spread
abbrev pub widest_axis : {T : Type 0} → (T → Axes) → List T → Axis
widest_axis point ts =
    if int_le (spread point Y ts) (spread point X ts) && int_le (spread point Z ts) (spread point X ts) then X
    else (if int_le (spread point Z ts) (spread point Y ts) then Y else Z)
