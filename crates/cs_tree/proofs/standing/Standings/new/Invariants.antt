use Rattle.std.proofs.Common.{◌≡◌, take}
use Rattle.cs_tree.specs.Standing.{standings}
use Rattle.cs_tree.proofs.standing.Standings.new.Given as goal

-- the standings of the regions so far
abbrev pub invariant-loop-i : goal.invariant-loop-i
invariant-loop-i g l = l.regions.items ≡ standings (take l.i (g.V.Sight.summaries l.sight))
