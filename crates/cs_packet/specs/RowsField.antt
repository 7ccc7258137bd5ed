-- Rows of a group, one behind the other, ascending by region and id.
use Rattle.std.specs.Prelude.{◌≡◌, ℕ, ◌+◌, ◌*◌, ◌≤◌, Bool, true, List, [], ◌∷◌, ◌++◌, length, Ok}
use Rattle.std.specs.List.{AllByRecursion}
use Rattle.std.specs.Ordering.{nat_cmp, ordering_then, is_lt}
use Rattle.cs_base.specs.Limits.{last_id, most_members}
use Rattle.cs_fields.specs.Counted.{counted, counted_at, counted_sizes}
use Rattle.cs_fields.specs.Fields.{address_at, id_at, id_bytes, member_bytes, member_len, member_sizes, point_at}
use Rattle.cs_fields.specs.Fields.{region_from}
use Rattle.cs_fields.specs.Numbers.{number_bytes, number_in}
use Rattle.cs_fields.specs.Reading.{Reader, ◌>>=◌, checked}
use Rattle.cs_group.specs.declared.row.Row.{Row}
use Rattle.cs_group.specs.Rows.{IsInOrder, IsRow}

-- where a row stands: its region and its id
abbrev pub place_of : Row → ℕ × ℕ
place_of r = (r.region, r.member.id)

-- a place is behind another where its region is higher, and in one region where its id is
abbrev pub is_behind : ℕ × ℕ → ℕ × ℕ → Bool
is_behind before place = is_lt (ordering_then (nat_cmp before.0 place.0) (nat_cmp before.1 place.1))

-- a row with allowed values behind the place of the one before
abbrev pub IsRowAfter : ℕ × ℕ → Row → Type 0
IsRowAfter before r = (is_behind before (place_of r) ≡ true) × IsRow r

-- a region that is at least so much, and an id
unfoldable pub place_from : ℕ → Reader (ℕ × ℕ)
place_from least bytes at = do
  region ← region_from least bytes at
  id ← id_at bytes region.1
  Ok ((region.0, id.0), id.1)

-- a place behind the one before, else the fault is at its region
abbrev pub place_after : ℕ × ℕ → Reader (ℕ × ℕ)
place_after before = checked (is_behind before) (place_from before.0)

-- a row behind the one before
unfoldable pub row_after : ℕ × ℕ → Reader Row
row_after before bytes at = do
  place ← place_after before bytes at
  addr ← address_at bytes place.1
  point ← point_at bytes addr.1
  seq ← number_in 4 0 last_id bytes point.1
  Ok (
    record {
      region = place.0.0;
      member = record { id = place.0.1; addr = addr.0; at = point.0 };
      seq = seq.0;
    },
    seq.1,
  )

-- the bytes of a row
unfoldable pub row_bytes : Row → List ℕ
row_bytes r = id_bytes r.region ++ member_bytes r.member ++ number_bytes 4 r.seq

-- the sizes of its fields
abbrev pub row_sizes : Row → List ℕ
row_sizes r = 4 ∷ member_sizes r.member ++ 4 ∷ []

-- the number of its bytes
abbrev pub row_len : ℕ
row_len = 4 + member_len + 4

-- from 1 to as many rows as there can be members, ascending
pub record AreRows (rows : List Row) : Type 0 where
  pub some : 1 ≤ length rows
  pub few : length rows ≤ most_members
  pub allowed : AllByRecursion IsRow rows
  pub in_order : IsInOrder rows

-- no row stands at the first of these places
unfoldable pub rows_at : Reader (List Row)
rows_at = counted_at 2 1 most_members row_after (λ before row. place_of row) (0, 0)

unfoldable pub rows_bytes : List Row → List ℕ
rows_bytes rows = counted 2 row_bytes rows

-- the sizes of their fields
abbrev pub rows_sizes : List Row → List ℕ
rows_sizes rows = counted_sizes 2 row_sizes rows

-- the greatest number of their bytes
abbrev pub rows_len : ℕ
rows_len = 2 + row_len * most_members
