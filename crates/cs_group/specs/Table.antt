-- The table of a group's rows: what is kept beside them.
use Rattle.std.specs.Prelude.{◌≡◌, ◌≤◌, ℕ, ◌+◌, ◌-◌, ◌==◌, ◌+ℤ◌, ◌-ℤ◌, List, map, length}
use Rattle.std.specs.Prelude.{Option, Some, None, if◌then◌else◌}
use Rattle.std.specs.List.{AllByRecursion}
use Rattle.std.specs.Option.{option_map}
use Rattle.cs_base.specs.Ascending.{at_key, placed_by, without_key}
use Rattle.cs_base.specs.Axes.{Axes}
use Rattle.cs_base.specs.Limits.{most_summed}
use Rattle.cs_base.specs.Total.{Total}
use Rattle.cs_near.specs.Sums.{one_point}
use Rattle.cs_group.specs.declared.kept.KeptSum.{KeptSum}
use Rattle.cs_group.specs.declared.member_region.MemberRegion.{MemberRegion}
use Rattle.cs_group.specs.declared.row.Row.{Row}
use Rattle.cs_group.specs.Place.{region_sums}
use Rattle.cs_group.specs.Rows.{IsInOrder, IsRow, HasDistinctIds, placed, row_of, without}

-- a sum with one more point
abbrev pub with_point : Total → Axes → Total
with_point t p = record {
  count = t.count + 1;
  sums = record { x = t.sums.x +ℤ p.x; y = t.sums.y +ℤ p.y; z = t.sums.z +ℤ p.z };
}

-- a sum with one point less
abbrev pub without_point : Total → Axes → Total
without_point t p = record {
  count = t.count - 1;
  sums = record { x = t.sums.x -ℤ p.x; y = t.sums.y -ℤ p.y; z = t.sums.z -ℤ p.z };
}

-- kept sums ascend by region
abbrev pub region_kept : KeptSum → ℕ
region_kept kept = kept.total.region

-- the sum of a region with one more point, which is that point alone where it had none
abbrev pub total_with : Axes → Option KeptSum → Total
total_with p None = one_point p
total_with p (Some kept) = with_point kept.total.sum p

-- the kept sum of a region
abbrev pub kept_of : ℕ → Total → KeptSum
kept_of region sum = record { total = record { region = region; sum = sum } }

-- the sums after a point came to a region
abbrev pub sums_with : ℕ → Axes → List KeptSum → List KeptSum
sums_with region p sums = placed_by region_kept (kept_of region (total_with p (at_key region_kept region sums))) sums

-- the sums after a point went from a region that has this one, which has none where it was the last
abbrev pub sums_less_of : ℕ → Axes → List KeptSum → Option KeptSum → List KeptSum
sums_less_of region p sums None = sums
sums_less_of region p sums (Some kept) =
    if kept.total.sum.count == 1 then without_key region_kept region sums
    else placed_by region_kept (kept_of region (without_point kept.total.sum p)) sums

abbrev pub sums_less : ℕ → Axes → List KeptSum → List KeptSum
sums_less region p sums = sums_less_of region p sums (at_key region_kept region sums)

-- rows with one more in its place, instead of one of its id
abbrev pub with_row : List Row → Row → List Row
with_row rows row = placed row (without row.member.id rows)

-- rows without one of the row's id
abbrev pub without_row : List Row → Row → List Row
without_row rows row = without row.member.id rows

-- what the index has of a row
abbrev pub entry : Row → MemberRegion
entry row = record { id = row.member.id; region = row.region }

-- the entry of an id
abbrev pub entry_of : ℕ → List MemberRegion → Option MemberRegion
entry_of id index = at_key (λ (e : MemberRegion). e.id) id index

-- rows in order with distinct ids, and beside them the sum of each region's points as they are now, the region of each
-- id, and how many there are, which is few enough to be summed
pub record IsTable (rows : List Row) (sums : List KeptSum) (index : List MemberRegion) (count : ℕ) : Type 0 where
  pub in_order : IsInOrder rows
  pub distinct : HasDistinctIds rows
  pub allowed : AllByRecursion IsRow rows
  pub sums_now : map (λ (kept : KeptSum). kept.total) sums ≡ region_sums rows
  pub indexed : (id : ℕ) → option_map (λ (e : MemberRegion). e.region) (entry_of id index)
      ≡ option_map (λ (r : Row). r.region) (row_of id rows)
  pub counted : count ≡ length rows
  pub few : length rows ≤ most_summed
