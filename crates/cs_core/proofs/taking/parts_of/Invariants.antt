use Rattle.std.proofs.Common.{◌≡◌, take}
use Rattle.cs_core.specs.Taking.{parts_of}
use Rattle.cs_core.proofs.taking.parts_of.Given as goal

-- the parts of the slices so far
abbrev pub invariant-loop-slice : goal.invariant-loop-slice
invariant-loop-slice l = l.parts ≡ parts_of (take l.slice-index l.slices)
