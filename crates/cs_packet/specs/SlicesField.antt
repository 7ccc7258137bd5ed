-- Slices one behind the other, each with its length in front.
use Rattle.std.specs.Prelude.{ℕ, ◌+◌, ◌*◌, ◌≤◌, nat_le, List, [], ◌∷◌, ◌++◌, length, Result, Ok, Err}
use Rattle.cs_base.specs.Limits.{most_regions}
use Rattle.cs_fields.specs.Counted.{above, counted, counted_at, counted_sizes, IsListed}
use Rattle.cs_fields.specs.Numbers.{number_at, number_bytes, raw_at}
use Rattle.cs_fields.specs.Reading.{Reader, ◌>>=◌, checked}
use Rattle.cs_fields.specs.Whole.{whole_of}
use Rattle.cs_fields.specs.declared.fault.PacketFault.{PacketFault}
use Rattle.cs_fields.specs.declared.fault.PacketFault.TheVariants.{Value}
use Rattle.cs_item.specs.SliceField.{IsSlice, slice_at, slice_bytes, slice_len}
use Rattle.cs_item.specs.declared.slice.Slice.{Slice}

-- a value, or in the place of each fault that a value at this place isn't allowed
abbrev pub allowed_at : {T : Type 0} → ℕ → Result T PacketFault → Result T PacketFault
allowed_at at (Ok x) = Ok x
allowed_at at (Err fault) = Err (Value at)

-- a length of four bytes, and a value that is spelt by exactly so many bytes
unfoldable pub framed_at : {T : Type 0} → Reader T → Reader T
framed_at read bytes at = do
  size ← number_at 4 bytes at
  text ← raw_at size.0 bytes size.1
  item ← allowed_at at (whole_of read text.0)
  Ok (item, text.1)

unfoldable pub framed_bytes : {T : Type 0} → (T → List ℕ) → T → List ℕ
framed_bytes spell x = number_bytes 4 (length (spell x)) ++ spell x

-- the sizes of the two: what is within the bytes isn't read where they are cut off
abbrev pub framed_sizes : {T : Type 0} → (T → List ℕ) → T → List ℕ
framed_sizes spell x = 4 ∷ length (spell x) ∷ []

-- the greatest number of bytes of a slice with its length
abbrev pub framed_slice_len : ℕ
framed_slice_len = 4 + slice_len

-- the old region that a slice is for
abbrev pub region_of_slice : Slice → ℕ
region_of_slice s = s.part.region

-- a slice for a region that is at least so much
abbrev pub IsSliceFrom : ℕ → Slice → Type 0
IsSliceFrom least s = (least ≤ region_of_slice s) × IsSlice s

-- and how it is read with its length in front
abbrev pub slice_from : ℕ → Reader Slice
slice_from least = checked (λ s. nat_le least (region_of_slice s)) (framed_at slice_at)

-- from 1 to as many slices as there are regions, ascending by region
abbrev pub AreSlices : List Slice → Type 0
AreSlices slices = IsListed 1 most_regions IsSlice region_of_slice slices

unfoldable pub slices_at : Reader (List Slice)
slices_at = counted_at 1 1 most_regions slice_from (above region_of_slice) 0

unfoldable pub slices_bytes : List Slice → List ℕ
slices_bytes slices = counted 1 (framed_bytes slice_bytes) slices

-- the sizes of their fields
abbrev pub slices_sizes : List Slice → List ℕ
slices_sizes slices = counted_sizes 1 (framed_sizes slice_bytes) slices

-- the greatest number of their bytes
abbrev pub slices_len : ℕ
slices_len = 1 + framed_slice_len * most_regions
