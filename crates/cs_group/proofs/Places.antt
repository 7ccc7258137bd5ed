-- A point has its place in a region of the group.
use Rattle.std.proofs.Common.{ℕ, ◌<◌, List, length}
use Rattle.std.specs.List.{AllByRecursion, list_all}
use Rattle.std.specs.Ordering.{is_le}
use Rattle.cs_base.specs.Axes.{Axes}
use Rattle.cs_base.specs.Total.{Total}
use Rattle.cs_near.specs.Nearest.{nearness_cmp}
use Rattle.cs_near.specs.Sums.{one_point}
use Rattle.cs_near.specs.declared.keyed.RegionSum.{RegionSum}
use Rattle.cs_near.proofs.Nearness.{nearest-some}
use Rattle.cs_near.proofs.Found.{find-holds}
use Rattle.cs_group.specs.Place.{place_of}

-- what holds of each region holds of the place of a point
pub place-holds : (P : ℕ → Type 0) (sums : List RegionSum) (at : Axes) → 0 < length sums → AllByRecursion (λ (r : RegionSum). 0 < r.sum.count) sums
    → AllByRecursion (λ (r : RegionSum). P r.region) sums → P (place_of sums at)
place-holds P sums at some counted all =
    let key : RegionSum → ℕ = λ r. r.region in
    let sum : RegionSum → Total = λ r. r.sum in
    let near = nearest-some key sum (one_point at) sums some counted in
    let held = find-holds (λ (r : RegionSum). P r.region) (λ r. list_all (λ s. is_le (nearness_cmp key sum (one_point at) r s)) sums) sums near.0 all near.1 in
    rw near.1 held.0
