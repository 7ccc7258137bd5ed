use Rattle.std.proofs.Common.{◌≡◌, take}
use Rattle.cs_tree.specs.Inter.{region_points}
use Rattle.cs_tree.proofs.inter_tree.region_points.Given as goal

-- the regions so far have their points
abbrev pub invariant-loop-i : goal.invariant-loop-i
invariant-loop-i g l = l.points.items ≡ region_points l.colour (take l.i (g.V.Sight.summaries l.sight))
