-- the frames give what those that are left make of the node so far
use Rattle.std.proofs.Common.{◌≡◌, drop}
use Rattle.cs_node.specs.Folding.{fold_from}
use Rattle.cs_node.proofs.folding.fold_from.Given as goal

abbrev pub invariant-loop-place : goal.invariant-loop-place
invariant-loop-place l = fold_from l.fn.node l.frames ≡ fold_from l.now (drop l.place-index l.frames)
