use Rattle.std.proofs.Common.{◌≡◌, take}
use Rattle.cs_pending.proofs.pending.Pending.front.Given as goal

abbrev pub invariant-loop-i : goal.invariant-loop-i
invariant-loop-i l = l.front ≡ take l.i l.self
