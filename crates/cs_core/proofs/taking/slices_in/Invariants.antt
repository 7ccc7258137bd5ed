use Rattle.std.proofs.Common.{◌≡◌, take}
use Rattle.std.specs.List.{AllByRecursion}
use Rattle.cs_item.specs.SliceField.{IsSlice}
use Rattle.cs_core.specs.Taking.{slices_in}
use Rattle.cs_core.proofs.taking.slices_in.Given as goal

-- the slices of the regions so far
abbrev pub invariant-loop-region : goal.invariant-loop-region
invariant-loop-region l = record {
  value : l.slices ≡ slices_in l.held (take l.region-index l.regions);
  allowed : AllByRecursion IsSlice l.slices;
}
