use Rattle.std.proofs.Common.{◌≡◌, take}
use Rattle.cs_group.specs.Judging.{accepted}
use Rattle.cs_group.proofs.next.item_of.Given as goal

-- the accepted changes so far
abbrev pub invariant-loop-change : goal.invariant-loop-change
invariant-loop-change l = l.item ≡ accepted (take l.change-index l.verdicts)
