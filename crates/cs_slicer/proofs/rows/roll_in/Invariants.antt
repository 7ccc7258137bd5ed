use Rattle.std.proofs.Common.{◌≡◌, map, take}
use Rattle.cs_group.specs.declared.row.Row.{Row}
use Rattle.cs_slicer.proofs.rows.roll_in.Given as goal

-- the members of the rows so far
abbrev pub invariant-loop-row : goal.invariant-loop-row
invariant-loop-row l = l.roll ≡ map (λ (r : Row). r.member) (take l.row-index l.row-items)
