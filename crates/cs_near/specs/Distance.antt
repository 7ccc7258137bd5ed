-- Distances between centroids, without dividing: their squares are compared, times squares of counts.
use Rattle.std.specs.Prelude.{ℕ, ◌+◌, ◌*◌, ◌^◌, IsTrue, ℤ, pos, ◌-ℤ◌, ◌*ℤ◌, unsigned_abs}
use Rattle.std.specs.declared.cmp.Ordering.{Ordering}
use Rattle.std.specs.Ordering.{nat_cmp, is_le}
use Rattle.cs_base.specs.Total.{Total}

-- on one axis: the square of the difference of the centroids a / m and b / n, times the squares of both counts
abbrev pub squared_gap : ℕ → ℤ → ℕ → ℤ → ℕ
squared_gap m a n b = unsigned_abs (pos n *ℤ a -ℤ pos m *ℤ b) ^ 2

-- the square of the distance of two centroids, times the squares of both counts
abbrev pub squared_distance : Total → Total → ℕ
squared_distance a b =
    squared_gap a.count a.sums.x b.count b.sums.x
    + squared_gap a.count a.sums.y b.count b.sums.y
    + squared_gap a.count a.sums.z b.count b.sums.z

-- how the distances from one centroid to two others compare: each times the square of the other's count
abbrev pub distance_cmp : Total → Total → Total → Ordering
distance_cmp from a b = nat_cmp (squared_distance from a * b.count ^ 2) (squared_distance from b * a.count ^ 2)

-- the first of two centroids is at most as far away as the second
abbrev pub IsAtMostAsFar : Total → Total → Total → Type 0
IsAtMostAsFar from a b = IsTrue (is_le (distance_cmp from a b))
