-- What is known of a region whose roll isn't: its size, the sum and the bounds of its points, and its first
-- members, the globals.
use Rattle.std.specs.Prelude.{◌≡◌, ℕ, ◌<◌, ◌≤◌, min, ℤ, pos, ◌*ℤ◌, ◌≤ℤ◌, List, length, map, take}
use Rattle.cs_base.specs.Axes.{Axes, IsPoint}
use Rattle.cs_base.specs.Bounds.{lowest, highest}
use Rattle.cs_base.specs.Limits.{most_globals, most_summed}
use Rattle.cs_base.specs.Points.{total}
use Rattle.cs_base.specs.declared.member.Member.{Member}
use Rattle.cs_roll.specs.Roll.{IsRoll}

pub record RegionSummary : Type 0 where
  pub size : ℕ
  pub sum : Axes
  pub low : Axes
  pub high : Axes
  pub globals : List Member

-- the same of the members' points, on each axis
abbrev pub on_each_axis : (List ℤ → ℤ) → List Member → Axes
on_each_axis f members = record {
  x = f (map (λ (m : Member). m.at.x) members);
  y = f (map (λ (m : Member). m.at.y) members);
  z = f (map (λ (m : Member). m.at.z) members);
}

abbrev pub summary_of : List Member → RegionSummary
summary_of members = record {
  size = length members;
  sum = on_each_axis total members;
  low = on_each_axis lowest members;
  high = on_each_axis highest members;
  globals = take most_globals members;
}

-- on one axis: the bounds are in order, and the sum is that of so many numbers within them
pub record IsBounded (size : ℕ) (sum low high : ℤ) : Type 0 where
  pub ordered : low ≤ℤ high
  pub at_least : (pos size *ℤ low) ≤ℤ sum
  pub at_most : sum ≤ℤ (pos size *ℤ high)

-- what every summary meets of a roll with members, few enough to be summed
pub record IsSummary (s : RegionSummary) : Type 0 where
  pub some : 0 < s.size
  pub few : s.size ≤ most_summed
  pub low : IsPoint s.low
  pub high : IsPoint s.high
  pub x : IsBounded s.size s.sum.x s.low.x s.high.x
  pub y : IsBounded s.size s.sum.y s.low.y s.high.y
  pub z : IsBounded s.size s.sum.z s.low.z s.high.z
  pub globals : length s.globals ≡ min most_globals s.size
  pub roll : IsRoll s.globals
