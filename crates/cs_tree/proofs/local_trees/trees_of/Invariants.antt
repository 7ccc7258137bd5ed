use Rattle.std.proofs.Common.{◌≡◌, ◌+◌, ◌*◌, ◌≤◌, length, take}
use Rattle.std.specs.List.{filter_map, range_with_len}
use Rattle.cs_tree.specs.Colour.{trees_of}
use Rattle.cs_tree.specs.Local.{local_tree}
use Rattle.cs_tree.proofs.local_trees.trees_of.Given as goal

-- the trees of the colours so far, and a step for each member in each
abbrev pub invariant-loop-colour : goal.invariant-loop-colour
invariant-loop-colour g l = record {
  trees : l.trees.items ≡ filter_map (λ n. local_tree n l.roll) (take l.colour (range_with_len 0 (trees_of (length l.roll))));
  steps : l.steps ≤ l.initial.steps + l.colour * length l.roll;
}
