use Rattle.std.proofs.Common.{◌≡◌, take}
use Rattle.cs_tree.proofs.kept.shared.Given as goal

-- so far the same trees beside the same regions
abbrev pub invariant-loop-trees : goal.invariant-loop-trees
invariant-loop-trees l = l.copy.items ≡ take l.trees-index l.within
