use Rattle.std.proofs.Common.{◌≡◌, map, take}
use Rattle.cs_group.specs.Rows.{regions}
use Rattle.cs_slicer.specs.Part.{part_in}
use Rattle.cs_slicer.proofs.slicer.parts_of.Given as goal

-- the parts of the regions so far
abbrev pub invariant-loop-i : goal.invariant-loop-i
invariant-loop-i l = l.parts ≡ map (part_in l.before l.turn) (take l.i (regions l.before.rows))
