use Rattle.std.proofs.Common.{◌≡◌, take}
use Rattle.cs_base.proofs.items.copy_each.Given as goal

-- the copies are the elements so far
abbrev pub invariant-loop-x : goal.invariant-loop-x
invariant-loop-x g l = l.copies.items ≡ take l.x-index l.xs
