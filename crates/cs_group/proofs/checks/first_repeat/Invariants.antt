use Rattle.std.proofs.Common.{◌≡◌, drop}
use Rattle.cs_group.specs.Faults.{first_repeat}
use Rattle.cs_group.proofs.checks.first_repeat.Given as goal

-- what the rest gives is what all give
abbrev pub invariant-loop-row : goal.invariant-loop-row
invariant-loop-row l = first_repeat l.seen (drop l.row-index l.rows) ≡ first_repeat l.retired l.rows
