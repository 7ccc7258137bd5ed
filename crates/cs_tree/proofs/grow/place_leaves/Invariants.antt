use Rattle.std.proofs.Common.{◌≡◌, ◌+◌, ◌++◌, length, map, take}
use Rattle.cs_tree.specs.Building.{placements_of}
use Rattle.cs_tree.proofs.grow.place_leaves.Given as goal

-- the leaves so far stand below the parent, and each took a step
abbrev pub invariant-loop-leaf : goal.invariant-loop-leaf
invariant-loop-leaf g l = record {
  placed : l.builder ≡ l.initial.builder
      ++ placements_of (map (λ c. record { parent = l.parent; child = g.P.Keyed.key_of c }) (take l.leaf-index l.leaves));
  steps : l.steps + length l.initial.builder ≡ l.initial.steps + length l.builder;
}
