-- How many points there are, and their sum on each axis.
use Rattle.std.specs.Prelude.{ℕ, ◌*◌, ◌<◌, ◌≤◌}
use Rattle.cs_base.specs.Axes.{Axes, IsWithin}
use Rattle.cs_base.specs.Limits.{farthest, most_summed}

pub record Total : Type 0 where
  pub count : ℕ
  pub sums : Axes

-- some points, few enough, can have this sum
pub record IsTotal (t : Total) : Type 0 where
  pub some : 0 < t.count
  pub few : t.count ≤ most_summed
  pub near : IsWithin (farthest * t.count) t.sums
