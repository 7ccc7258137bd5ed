use Rattle.std.proofs.Common.{◌≡◌, not, take}
use Rattle.std.specs.List.{filter}
use Rattle.cs_group.specs.Group.{is_among}
use Rattle.cs_group.specs.Rows.{regions}
use Rattle.cs_slicer.proofs.head.dropped.Given as goal

-- the dropped ones of the regions so far
abbrev pub invariant-loop-i : goal.invariant-loop-i
invariant-loop-i l = l.dropped ≡ filter (λ region. not (is_among (regions l.rows) region)) (take l.i (regions l.before.rows))
