use Rattle.std.proofs.Common.{◌≡◌, take}
use Rattle.cs_slicer.specs.Part.{new_in}
use Rattle.cs_slicer.proofs.part.new_in.Given as goal

-- the new members so far
abbrev pub invariant-loop-member : goal.invariant-loop-member
invariant-loop-member l = l.here ≡ new_in l.old (take l.member-index l.member-items)
