use Rattle.std.proofs.Common.{◌≡◌, take}
use Rattle.cs_tree.specs.Inter.{region_points}
use Rattle.cs_tree.proofs.kept.are_same_points.Given as goal

-- the regions so far have the same points
abbrev pub invariant-loop-i : goal.invariant-loop-i
invariant-loop-i g l =
    region_points l.colour (take l.i (g.V.Sight.summaries l.old)) ≡ region_points l.colour (take l.i (g.V.Sight.summaries l.new))
