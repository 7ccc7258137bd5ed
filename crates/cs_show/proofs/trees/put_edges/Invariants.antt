use Rattle.std.proofs.Common.{◌≡◌, ◌++◌, take}
use Rattle.std.specs.List.{flat_map}
use Rattle.std.specs.String.{string_bytes}
use Rattle.cs_show.specs.Block.{edge_text}
use Rattle.cs_show.proofs.trees.put_edges.Given as goal

abbrev pub invariant-loop-child : goal.invariant-loop-child
invariant-loop-child l =
    string_bytes l.out ≡ string_bytes l.initial.out ++ flat_map (edge_text l.key) (take l.child-index l.child-items)
