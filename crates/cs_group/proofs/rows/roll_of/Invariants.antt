use Rattle.std.proofs.Common.{◌≡◌, take}
use Rattle.cs_group.specs.Rows.{members_in}
use Rattle.cs_group.proofs.rows.roll_of.Given as goal

-- the roll has the members so far
abbrev pub invariant-loop-row : goal.invariant-loop-row
invariant-loop-row l = l.roll ≡ members_in l.region (take l.row-index l.rows)
