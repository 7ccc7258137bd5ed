use Rattle.std.proofs.Common.{◌≡◌, ◌++◌, take}
use Rattle.std.specs.List.{flat_map}
use Rattle.cs_item.specs.SliceField.{slice_bytes}
use Rattle.cs_packet.specs.SlicesField.{framed_bytes}
use Rattle.cs_packet.proofs.codec.slices.append_each_slice.Given as goal

abbrev pub invariant-loop-slice : goal.invariant-loop-slice
invariant-loop-slice l = l.out.items ≡ l.fn.out.items ++ flat_map (framed_bytes slice_bytes) (take l.slice-index l.slices)
