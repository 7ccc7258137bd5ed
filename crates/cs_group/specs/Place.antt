-- Place: the region whose centroid is nearest.
use Rattle.std.specs.Prelude.{ℕ, List, map, Option}
use Rattle.std.specs.Option.{option_map, unwrap_or}
use Rattle.cs_base.specs.Axes.{Axes}
use Rattle.cs_base.specs.Total.{Total}
use Rattle.cs_base.specs.declared.member.Member.{Member}
use Rattle.cs_near.specs.Nearest.{nearest}
use Rattle.cs_near.specs.Sums.{one_point, sum_of_points}
use Rattle.cs_near.specs.declared.keyed.RegionSum.{RegionSum}
use Rattle.cs_group.specs.declared.row.Row.{Row}
use Rattle.cs_group.specs.Rows.{members_in, regions}

-- how many members a region has, and the sum of their points
abbrev pub sum_in : List Row → ℕ → RegionSum
sum_in rows region = record { region = region; sum = sum_of_points (λ (m : Member). m.at) (members_in region rows) }

-- each region with its sum
abbrev pub region_sums : List Row → List RegionSum
region_sums rows = map (sum_in rows) (regions rows)

-- of some regions the nearest one, and of several the least
abbrev pub nearest_region : Total → List RegionSum → Option ℕ
nearest_region from sums =
    let region : RegionSum → ℕ = λ r. r.region in
    option_map region (nearest region (λ (r : RegionSum). r.sum) from sums)

-- the region where a point has its place. A group has the region of its leader, so one is nearest
abbrev pub place_of : List RegionSum → Axes → ℕ
place_of sums at = unwrap_or (nearest_region (one_point at) sums) 0
