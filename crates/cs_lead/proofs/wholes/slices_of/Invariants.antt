use Rattle.std.proofs.Common.{◌≡◌, map, take}
use Rattle.std.specs.List.{AllByRecursion}
use Rattle.cs_group.specs.Rows.{regions}
use Rattle.cs_item.specs.SliceField.{IsSlice}
use Rattle.cs_slicer.specs.Slice.{slice_in}
use Rattle.cs_lead.proofs.wholes.slices_of.Given as goal

-- the slices of the regions so far, each well formed
abbrev pub invariant-loop-i : goal.invariant-loop-i
invariant-loop-i l = record {
  slices : l.slices ≡ map (slice_in l.before l.turn l.fn.epoch) (take l.i (regions l.before.rows));
  allowed : AllByRecursion IsSlice l.slices;
}
