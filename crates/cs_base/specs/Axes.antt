-- A whole number for each of the three axes: a point, or sums or bounds of points.
use Rattle.std.specs.Prelude.{ℕ, ℤ, pos, neg_ℤ, ◌≤ℤ◌, List, [], ◌∷◌, ◌++◌, codes, slice_index_or}
use Rattle.cs_base.specs.Limits.{farthest}
use Rattle.cs_base.specs.declared.point.Axis.{Axis}
use Rattle.cs_base.specs.declared.point.Axis.TheVariants.{X, Y, Z}
use Rattle.std.specs.Fmt.{signed_decimal}

pub record Axes : Type 0 where
  pub x : ℤ
  pub y : ℤ
  pub z : ℤ

-- the number of one axis
abbrev pub on_axis : Axis → Axes → ℤ
on_axis X p = p.x
on_axis Y p = p.y
on_axis Z p = p.z

-- the three numbers in a row, as an array has them
abbrev pub in_a_row : Axes → List ℤ
in_a_row p = p.x ∷ p.y ∷ p.z ∷ []

-- the first three numbers of an array
abbrev pub from_row : List ℤ → Axes
from_row numbers = record {
  x = slice_index_or numbers 0 (pos 0);
  y = slice_index_or numbers 1 (pos 0);
  z = slice_index_or numbers 2 (pos 0);
}

-- from -bound to bound
abbrev pub IsNear : ℕ → ℤ → Type 0
IsNear bound n = (neg_ℤ (pos bound) ≤ℤ n) × (n ≤ℤ pos bound)

-- each of the three is from -bound to bound
pub record IsWithin (bound : ℕ) (p : Axes) : Type 0 where
  pub x : IsNear bound p.x
  pub y : IsNear bound p.y
  pub z : IsNear bound p.z

-- a point: each axis is at most 1,000,000 microseconds away from 0
abbrev pub IsPoint : Axes → Type 0
IsPoint p = IsWithin farthest p

-- the three numbers as text, one space between two
abbrev pub axes_text : Axes → List ℕ
axes_text p = signed_decimal p.x ++ codes " " ++ signed_decimal p.y ++ codes " " ++ signed_decimal p.z
