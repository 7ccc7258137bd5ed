-- The fields of ids, addresses, points, members, modes, cuts and lists of numbers: allowed values, bytes, reading.
use Rattle.std.specs.Prelude.{ℕ, zero, suc, ◌+◌, ◌*◌, ℤ, pos, neg_ℤ, List, [], ◌∷◌, ◌++◌, Ok}
use Rattle.std.specs.Int.{w32}
use Rattle.cs_base.specs.Address.{Address}
use Rattle.cs_base.specs.Axes.{Axes}
use Rattle.cs_base.specs.declared.change.Mode.{Mode}
use Rattle.cs_base.specs.declared.change.Mode.TheVariants.{Partial, Full}
use Rattle.cs_base.specs.declared.member.Member.{Member}
use Rattle.cs_base.specs.declared.point.Axis.{Axis}
use Rattle.cs_base.specs.declared.point.Axis.TheVariants.{X, Y, Z}
use Rattle.cs_base.specs.declared.split.Cut.{Cut}
use Rattle.cs_base.specs.Limits.{farthest, last_id, last_number, most_changes, most_regions, most_together}
use Rattle.cs_base.specs.Ranges.{IsFromTo, IsId, IsRegion}
use Rattle.cs_fields.specs.Reading.{Reader, ◌>>=◌}
use Rattle.cs_fields.specs.Whole.{one_field}
use Rattle.cs_fields.specs.Numbers.{number_in, number_bytes, raw_at, axis_from, signed_bytes}
use Rattle.cs_fields.specs.Counted.{counted_at, counted, counted_sizes, above, IsListed}

-- an id that is at least so much
abbrev pub id_from : ℕ → Reader ℕ
id_from least = number_in 4 least last_id

abbrev pub id_at : Reader ℕ
id_at = id_from 1

-- a region or an epoch that is at least so much
abbrev pub region_from : ℕ → Reader ℕ
region_from least = number_in 4 least last_number

abbrev pub region_at : Reader ℕ
region_at = region_from 0

-- an epoch that isn't 0
abbrev pub IsLaterEpoch : ℕ → Type 0
IsLaterEpoch n = IsFromTo 1 last_number n

abbrev pub later_epoch_at : Reader ℕ
later_epoch_at = region_from 1

-- a number, as ids, regions and epochs have it
abbrev pub id_bytes : ℕ → List ℕ
id_bytes n = number_bytes 4 n

-- four bytes of an IPv4 address, and a port that isn't 0
unfoldable pub address_at : Reader Address
address_at bytes at = do
  ip ← raw_at 4 bytes at
  port ← number_in 2 1 65535 bytes ip.1
  Ok (record { ip = ip.0; port = port.0 }, port.1)

unfoldable pub address_bytes : Address → List ℕ
address_bytes a = a.ip ++ number_bytes 2 a.port

-- the sizes of the fields of an address
abbrev pub address_sizes : Address → List ℕ
address_sizes a = 4 ∷ 2 ∷ []

-- a coordinate in microseconds
abbrev pub axis_at : Reader ℤ
axis_at = axis_from (neg_ℤ (pos farthest))

-- one coordinate for each axis
unfoldable pub point_at : Reader Axes
point_at bytes at = do
  x ← axis_at bytes at
  y ← axis_at bytes x.1
  z ← axis_at bytes y.1
  Ok (record { x = x.0; y = y.0; z = z.0 }, z.1)

unfoldable pub point_bytes : Axes → List ℕ
point_bytes p = signed_bytes w32 p.x ++ signed_bytes w32 p.y ++ signed_bytes w32 p.z

-- the sizes of the fields of a point
abbrev pub point_sizes : Axes → List ℕ
point_sizes p = 4 ∷ 4 ∷ 4 ∷ []

unfoldable pub member_from : ℕ → Reader Member
member_from least bytes at = do
  id ← id_from least bytes at
  addr ← address_at bytes id.1
  point ← point_at bytes addr.1
  Ok (record { id = id.0; addr = addr.0; at = point.0 }, point.1)

unfoldable pub member_bytes : Member → List ℕ
member_bytes m = id_bytes m.id ++ address_bytes m.addr ++ point_bytes m.at

-- the sizes of the fields of a member
abbrev pub member_sizes : Member → List ℕ
member_sizes m = 4 ∷ address_sizes m.addr ++ point_sizes m.at

-- the bytes of a member
abbrev pub member_len : ℕ
member_len = 4 + 6 + 12

-- 0 for a node that wants to know its own region, 1 for one that wants to know every region
abbrev pub mode_of : ℕ → Mode
mode_of zero = Partial
mode_of (suc n) = Full

abbrev pub mode_number : Mode → ℕ
mode_number Partial = 0
mode_number Full = 1

unfoldable pub mode_at : Reader Mode
mode_at bytes at = do
  n ← number_in 1 0 1 bytes at
  Ok (mode_of n.0, n.1)

unfoldable pub mode_bytes : Mode → List ℕ
mode_bytes mode = number_bytes 1 (mode_number mode)

-- numbers from the first to the last, ascending, at most so many, with a count of so many bytes
unfoldable pub numbers_at : (width most first last : ℕ) → Reader (List ℕ)
numbers_at width most first last = counted_at width 0 most (λ least. number_in 4 least last) (above (λ n. n)) first

-- ids, ascending, at most as many as a report has changes
abbrev pub IsIds : List ℕ → Type 0
IsIds ns = IsListed 0 most_changes IsId (λ n. n) ns

abbrev pub ids_at : Reader (List ℕ)
ids_at = numbers_at 1 most_changes 1 last_id

-- ids, ascending, at most as many as there are members and retired ids together
abbrev pub IsManyIds : List ℕ → Type 0
IsManyIds ns = IsListed 0 most_together IsId (λ n. n) ns

abbrev pub many_ids_at : Reader (List ℕ)
many_ids_at = numbers_at 2 most_together 1 last_id

-- regions, ascending
abbrev pub IsRegionList : List ℕ → Type 0
IsRegionList ns = IsListed 0 most_regions IsRegion (λ n. n) ns

abbrev pub region_list_at : Reader (List ℕ)
region_list_at = numbers_at 1 most_regions 0 last_number

abbrev pub ids_bytes : List ℕ → List ℕ
ids_bytes ns = counted 1 id_bytes ns

-- the sizes of the fields of ids or regions
abbrev pub ids_sizes : List ℕ → List ℕ
ids_sizes ns = counted_sizes 1 (one_field 4) ns

-- the same of many ids, with a count of two bytes
abbrev pub many_ids_bytes : List ℕ → List ℕ
many_ids_bytes ns = counted 2 id_bytes ns

abbrev pub many_ids_sizes : List ℕ → List ℕ
many_ids_sizes ns = counted_sizes 2 (one_field 4) ns

-- the greatest number of bytes of ids, of many ids, and of regions
abbrev pub ids_len : ℕ
ids_len = 1 + 4 * most_changes

abbrev pub many_ids_len : ℕ
many_ids_len = 2 + 4 * most_together

abbrev pub region_list_len : ℕ
region_list_len = 1 + 4 * most_regions

-- 0 for the first axis, 1 for the second, 2 for the third
abbrev pub axis_of : ℕ → Axis
axis_of zero = X
axis_of (suc zero) = Y
axis_of (suc (suc n)) = Z

abbrev pub axis_number : Axis → ℕ
axis_number X = 0
axis_number Y = 1
axis_number Z = 2

-- the axis, the coordinate and the id of the split, and the upper region
unfoldable pub cut_at : Reader Cut
cut_at bytes at = do
  axis ← number_in 1 0 2 bytes at
  coordinate ← axis_at bytes axis.1
  id ← id_at bytes coordinate.1
  upper ← region_at bytes id.1
  Ok (
    record {
      split = record { axis = axis_of axis.0; at = coordinate.0; id = id.0 };
      upper = upper.0;
    },
    upper.1,
  )

unfoldable pub cut_bytes : Cut → List ℕ
cut_bytes cut =
    number_bytes 1 (axis_number cut.split.axis) ++ signed_bytes w32 cut.split.at ++ id_bytes cut.split.id
    ++ id_bytes cut.upper

-- the sizes of the fields of a cut
abbrev pub cut_sizes : Cut → List ℕ
cut_sizes cut = 1 ∷ 4 ∷ 4 ∷ 4 ∷ []
