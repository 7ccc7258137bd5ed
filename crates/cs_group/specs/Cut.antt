-- The cut: a region with many members is split in two.
use Rattle.std.specs.Prelude.{ℕ, nat_lt, nat_le, ◌+◌, ◌&&◌, not, ◌==◌, Bool, List, ◌++◌, length}
use Rattle.std.specs.Prelude.{map, Option, Some, None, if◌then◌else◌}
use Rattle.std.specs.List.{filter, find, list_all}
use Rattle.std.specs.Option.{option_map}
use Rattle.cs_base.specs.Limits.{cut_above, most_regions}
use Rattle.cs_base.specs.Split.{is_upper}
use Rattle.cs_base.specs.declared.split.Cut.{Cut}
use Rattle.cs_base.specs.declared.split.Split.{Split}
use Rattle.cs_near.specs.Middle.{middle_split}
use Rattle.cs_near.specs.declared.keyed.RegionSum.{RegionSum}
use Rattle.cs_group.specs.declared.row.Row.{Row}
use Rattle.cs_group.specs.Place.{region_sums}
use Rattle.cs_group.specs.Rows.{members_in, moved_to}

-- whether the region has members enough to be cut, and none has more
abbrev pub is_largest : List RegionSum → RegionSum → Bool
is_largest sums t = nat_lt cut_above t.sum.count && list_all (λ (u : RegionSum). nat_le u.sum.count t.sum.count) sums

-- the region that is to be cut: the least such one, where there may be a further region
abbrev pub region_to_cut : List Row → Option ℕ
region_to_cut rows =
    let sums = region_sums rows in
    if nat_lt (length sums) most_regions
    then option_map (λ (t : RegionSum). t.region) (find (is_largest sums) sums) else None

-- it is cut at its middle, and its upper members are to be the region of the next number
abbrev pub cut_at : ℕ → List Row → Option ℕ → Option (ℕ × Cut)
cut_at next_region rows None = None
cut_at next_region rows (Some region) =
    let split = middle_split (members_in region rows) in
    option_map (λ (s : Split). (region, record { split = s; upper = next_region })) split

abbrev pub cut_due : ℕ → List Row → Option (ℕ × Cut)
cut_due next_region rows = cut_at next_region rows (region_to_cut rows)

-- whether the cut moves the row
abbrev pub is_cut_off : ℕ → Split → Row → Bool
is_cut_off region split row = (row.region == region) && is_upper split row.member

-- the rows, with those of the upper members in their new region, which comes last
abbrev pub cut_rows : ℕ → Cut → List Row → List Row
cut_rows region cut rows =
    filter (λ row. not (is_cut_off region cut.split row)) rows
    ++ map (moved_to cut.upper) (filter (is_cut_off region cut.split) rows)

abbrev pub after_cut : Option (ℕ × Cut) → List Row → List Row
after_cut None rows = rows
after_cut (Some cut) rows = cut_rows cut.0 cut.1 rows

-- a cut uses up a region number
abbrev pub number_after : Option (ℕ × Cut) → ℕ → ℕ
number_after None next_region = next_region
number_after (Some cut) next_region = next_region + 1
