use Rattle.std.proofs.Common.{◌≡◌, ◌+◌, ◌≤◌, take}
use Rattle.std.specs.List.{filter_map, sum_by}
use Rattle.cs_tree.specs.Renewal.{steps_within}
use Rattle.cs_tree.proofs.Known.{cost_beside, made_beside}
use Rattle.cs_tree.proofs.KeptTrees.{with_trees}
use Rattle.cs_tree.proofs.kept.Kept.renewed_all_within.Given as goal

-- the trees of the known regions so far, and the steps of those that changed
abbrev pub invariant-loop-i : goal.invariant-loop-i
invariant-loop-i g l = record {
  within : l.within.items ≡ filter_map (made_beside with_trees (g.V.Sight.rolls l.new)) (take l.i (g.V.Sight.summaries l.new));
  steps : l.steps ≤ l.initial.steps
      + sum_by (cost_beside (steps_within (g.V.Sight.rolls l.old)) (g.V.Sight.rolls l.new)) (take l.i (g.V.Sight.summaries l.new));
}
