-- The slice of an old region: the head of the turn, and the part of the region.
use Rattle.std.specs.Prelude.{ℕ}
use Rattle.cs_group.specs.Group.{GroupState}
use Rattle.cs_group.specs.declared.next.Turn.{Turn}
use Rattle.cs_item.specs.declared.slice.Slice.{Slice}
use Rattle.cs_slicer.specs.Head.{head_in}
use Rattle.cs_slicer.specs.Part.{part_in}

-- the slice of a region, where the new epoch is this one
abbrev pub slice_in : GroupState → Turn → ℕ → ℕ → Slice
slice_in before turn epoch region = record { head = head_in before turn epoch; part = part_in before turn region }
