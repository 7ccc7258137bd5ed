-- The field of a summary.
use Rattle.std.specs.Prelude.{ℕ, ◌+◌, ◌*◌, ◌≤◌, min, Bool, ◌&&◌, ℤ, pos, int_le, ◌*ℤ◌, List, [], ◌∷◌, ◌++◌}
use Rattle.std.specs.Prelude.{Result, Ok, Err, if◌then◌else◌}
use Rattle.std.specs.Int.{w64}
use Rattle.cs_base.specs.Axes.{Axes}
use Rattle.cs_base.specs.Limits.{most_globals, most_members}
use Rattle.cs_base.specs.declared.member.Member.{Member}
use Rattle.cs_fields.specs.Counted.{above, counted, counted_at, counted_sizes}
use Rattle.cs_fields.specs.Fields.{member_bytes, member_from, member_len, member_sizes, point_at, point_bytes}
use Rattle.cs_fields.specs.Fields.{point_sizes}
use Rattle.cs_fields.specs.Numbers.{axis_from, IsFrom, number_bytes, number_in, signed_at, signed_bytes}
use Rattle.cs_fields.specs.Reading.{Reader, ◌>>=◌}
use Rattle.cs_fields.specs.declared.fault.PacketFault.{PacketFault}
use Rattle.cs_fields.specs.declared.fault.PacketFault.TheVariants.{Value}
use Rattle.cs_item.specs.RollField.{AreMembers}
use Rattle.cs_roll.specs.Roll.{member_id}
use Rattle.cs_roll.specs.Summary.{IsSummary, RegionSummary}

-- a summary of no more members than the group may have
pub record IsShortSummary (s : RegionSummary) : Type 0 where
  pub summary : IsSummary s
  pub few : s.size ≤ most_members

-- a number of 8 bytes with a sign for each axis
unfoldable pub sum_at : Reader Axes
sum_at bytes at = do
  x ← signed_at w64 bytes at
  y ← signed_at w64 bytes x.1
  z ← signed_at w64 bytes y.1
  Ok (record { x = x.0; y = y.0; z = z.0 }, z.1)

unfoldable pub sum_bytes : Axes → List ℕ
sum_bytes sum = signed_bytes w64 sum.x ++ signed_bytes w64 sum.y ++ signed_bytes w64 sum.z

-- the sizes of the fields of a sum
abbrev pub sum_sizes : Axes → List ℕ
sum_sizes sum = 8 ∷ 8 ∷ 8 ∷ []

-- no coordinate is below the lowest one
pub record IsHigh (low high : Axes) : Type 0 where
  pub x : IsFrom low.x high.x
  pub y : IsFrom low.y high.y
  pub z : IsFrom low.z high.z

-- the highest coordinates, none of which is below the lowest one
unfoldable pub high_at : Axes → Reader Axes
high_at low bytes at = do
  x ← axis_from low.x bytes at
  y ← axis_from low.y bytes x.1
  z ← axis_from low.z bytes y.1
  Ok (record { x = x.0; y = y.0; z = z.0 }, z.1)

-- the first members of so many, or all where there are few
abbrev pub AreGlobals : ℕ → List Member → Type 0
AreGlobals size members = AreMembers (min most_globals size) (min most_globals size) members

unfoldable pub globals_at : ℕ → Reader (List Member)
globals_at size = counted_at 1 (min most_globals size) (min most_globals size) member_from (above member_id) 1

unfoldable pub globals_bytes : List Member → List ℕ
globals_bytes members = counted 1 member_bytes members

-- the sizes of the fields of globals
abbrev pub globals_sizes : List Member → List ℕ
globals_sizes members = counted_sizes 1 member_sizes members

-- the greatest number of their bytes
abbrev pub globals_len : ℕ
globals_len = 1 + member_len * most_globals

-- whether the sum is that of so many numbers from the low to the high one
abbrev pub is_sum_of : ℕ → ℤ → ℤ → ℤ → Bool
is_sum_of size low high sum = int_le (pos size *ℤ low) sum && int_le sum (pos size *ℤ high)

-- the first sum that doesn't lie within its bounds is at fault, at its own place
unfoldable pub sums_fit : ℕ → Axes → Axes → Axes → ℕ → Result (Unit {0}) PacketFault
sums_fit size sum low high at =
    if is_sum_of size low.x high.x sum.x
    then (if is_sum_of size low.y high.y sum.y
    then (if is_sum_of size low.z high.z sum.z then Ok tt
    else Err (Value (at + 16))) else Err (Value (at + 8))) else Err (Value at)

-- the size, the sums, the bounds and the globals; the sums are checked last
unfoldable pub summary_at : Reader RegionSummary
summary_at bytes at = do
  size ← number_in 4 1 most_members bytes at
  sum ← sum_at bytes size.1
  low ← point_at bytes sum.1
  high ← high_at low.0 bytes low.1
  globals ← globals_at size.0 bytes high.1
  fit ← sums_fit size.0 sum.0 low.0 high.0 size.1
  Ok (record { size = size.0; sum = sum.0; low = low.0; high = high.0; globals = globals.0 }, globals.1)

unfoldable pub summary_bytes : RegionSummary → List ℕ
summary_bytes s =
    number_bytes 4 s.size ++ sum_bytes s.sum ++ point_bytes s.low ++ point_bytes s.high ++ globals_bytes s.globals

-- the sizes of the fields of a summary
abbrev pub summary_sizes : RegionSummary → List ℕ
summary_sizes s = 4 ∷ sum_sizes s.sum ++ point_sizes s.low ++ point_sizes s.high ++ globals_sizes s.globals

-- the greatest number of its bytes
abbrev pub summary_len : ℕ
summary_len = 4 + 24 + 12 + 12 + globals_len
