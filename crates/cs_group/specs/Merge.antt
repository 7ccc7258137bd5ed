-- The merge: a region with few members is taken in by another.
use Rattle.std.specs.Prelude.{ℕ, nat_lt, not, ◌==◌, List, Option, Some, None}
use Rattle.std.specs.List.{filter, find, fold}
use Rattle.std.specs.Option.{option_map}
use Rattle.cs_base.specs.Limits.{merge_below}
use Rattle.cs_near.specs.declared.keyed.RegionSum.{RegionSum}
use Rattle.cs_group.specs.declared.row.Row.{Row}
use Rattle.cs_group.specs.Place.{nearest_region, region_sums}
use Rattle.cs_group.specs.Rows.{moved_to, placed, rows_in, rows_outside}

-- the least region with few members
abbrev pub small_region : List RegionSum → Option RegionSum
small_region sums = find (λ (t : RegionSum). nat_lt t.sum.count merge_below) sums

-- the other regions
abbrev pub others : ℕ → List RegionSum → List RegionSum
others region sums = filter (λ (t : RegionSum). not (t.region == region)) sums

-- that region with the nearest of the others, which takes it in. The only region is never given up
abbrev pub merge_into : List RegionSum → Option RegionSum → Option (ℕ × ℕ)
merge_into sums None = None
merge_into sums (Some small) =
    option_map (λ into. (small.region, into)) (nearest_region small.sum (others small.region sums))

abbrev pub merge_due : List Row → Option (ℕ × ℕ)
merge_due rows = let sums = region_sums rows in merge_into sums (small_region sums)

-- the rows, with those of one region placed in another
abbrev pub merged : ℕ → ℕ → List Row → List Row
merged gone into rows =
    fold (λ placed_rows row. placed (moved_to into row) placed_rows) (rows_outside gone rows) (rows_in gone rows)

abbrev pub after_merge : Option (ℕ × ℕ) → List Row → List Row
after_merge None rows = rows
after_merge (Some merge) rows = merged merge.0 merge.1 rows
