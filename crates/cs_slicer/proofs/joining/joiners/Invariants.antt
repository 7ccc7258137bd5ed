use Rattle.std.proofs.Common.{◌≡◌, take}
use Rattle.cs_slicer.specs.Joiners.{joiners}
use Rattle.cs_slicer.proofs.joining.joiners.Given as goal

-- the joiners so far
abbrev pub invariant-loop-change : goal.invariant-loop-change
invariant-loop-change l = l.roll ≡ joiners (take l.change-index l.item)
