-- The slices of the regions that are whole, and what is held after a piece came.
use Rattle.std.specs.Prelude.{ℕ, ◌==◌, ◌&&◌, List, Option, None, Some, Result, Ok, Err, if◌then◌else◌}
use Rattle.std.specs.Option.{option_and_then}
use Rattle.std.specs.Result.{result_ok}
use Rattle.cs_fields.specs.Whole.{whole_of}
use Rattle.cs_fields.specs.declared.fault.PacketFault.{PacketFault}
use Rattle.cs_hold.specs.Held.{Held}
use Rattle.cs_hold.specs.Whole.{least_whole, whole_in}
use Rattle.cs_hold.specs.Taking.{taken}
use Rattle.cs_item.specs.SliceField.{slice_at}
use Rattle.cs_item.specs.declared.slice.Slice.{Slice}
use Rattle.cs_core.specs.Plans.{unfit_by, unless_unfit, ◌>>=◌}
use Rattle.cs_core.specs.declared.plan.Unfit.{Unfit}
use Rattle.cs_core.specs.declared.plan.Unfit.TheVariants as unfit

-- the region of a slice, by which slices ascend
abbrev pub slice_region : Slice → ℕ
slice_region slice = slice.part.region

-- the slice that bytes spell, all of them
abbrev pub slice_of : List ℕ → Result Slice PacketFault
slice_of bytes = whole_of slice_at bytes

-- the slice of a whole region
abbrev pub slice_in : ℕ → List Held → Option Slice
slice_in region held = option_and_then (λ bytes. result_ok (slice_of bytes)) (whole_in region held)

-- the slice of the least whole region
abbrev pub least_slice : List Held → Option Slice
least_slice held = option_and_then (λ region. slice_in region held) (least_whole held)

-- whether a slice is that of an epoch and a region, as its pieces say
abbrev pub named_as : ℕ → ℕ → Slice → Option Unfit
named_as epoch region slice =
    if (slice.head.epoch == epoch) && (slice.part.region == region) then None else Some unfit.Name

-- why the bytes of a whole region aren't the slice that their pieces are said to be of
abbrev pub bytes_fault : ℕ → ℕ → Result Slice PacketFault → Option Unfit
bytes_fault epoch region (Ok slice) = named_as epoch region slice
bytes_fault epoch region (Err fault) = Some (unfit.Bytes fault)

-- the same of a region, whole or not
abbrev pub region_fault : ℕ → ℕ → List Held → Option Unfit
region_fault epoch region held =
    option_and_then (λ bytes. bytes_fault epoch region (slice_of bytes)) (whole_in region held)

-- what is held with one more piece; with a third piece of a region its slice has to be that of the epoch and region
abbrev pub held_with_piece : ℕ → ℕ → ℕ → List ℕ → List Held → Result (List Held) Unfit
held_with_piece epoch region colour bytes held =
    unfit_by unfit.Piece (taken region colour bytes held)
    >>= λ next. unless_unfit (region_fault epoch region next) next
