use Rattle.std.proofs.Common.{◌≡◌, take}
use Rattle.std.specs.List.{AllByRecursion}
use Rattle.cs_group.specs.Taking.{FitsRow}
use Rattle.cs_slicer.specs.Leavers.{leavers}
use Rattle.cs_slicer.proofs.head.leavers.Given as goal

-- the leavers so far, and that the changes so far are allowed
abbrev pub invariant-loop-change : goal.invariant-loop-change
invariant-loop-change l = record {
  left : l.left ≡ leavers (take l.change-index l.item);
  allowed : AllByRecursion FitsRow (take l.change-index l.item);
}
