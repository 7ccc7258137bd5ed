use Rattle.std.proofs.Common.{◌≡◌, take}
use Rattle.std.specs.List.{filter_map}
use Rattle.cs_tree.proofs.Known.{made_beside}
use Rattle.cs_tree.proofs.KeptTrees.{with_trees}
use Rattle.cs_tree.proofs.kept.all_within.Given as goal

-- the trees of the known regions so far
abbrev pub invariant-loop-i : goal.invariant-loop-i
invariant-loop-i g l =
    l.within.items ≡ filter_map (made_beside with_trees (g.V.Sight.rolls l.sight)) (take l.i (g.V.Sight.summaries l.sight))
