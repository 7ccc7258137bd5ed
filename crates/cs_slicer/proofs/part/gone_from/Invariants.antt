use Rattle.std.proofs.Common.{◌≡◌, take}
use Rattle.cs_slicer.specs.Part.{gone_from}
use Rattle.cs_slicer.proofs.part.gone_from.Given as goal

-- the ids gone among the members so far
abbrev pub invariant-loop-member : goal.invariant-loop-member
invariant-loop-member l = l.gone ≡ gone_from (take l.member-index l.member-items) l.new
