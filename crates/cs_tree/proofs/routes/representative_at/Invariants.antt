use Rattle.std.proofs.Common.{◌≡◌, drop}
use Rattle.cs_roll.specs.Sight.{at_region}
use Rattle.cs_tree.proofs.routes.representative_at.Given as goal

abbrev pub invariant-loop-i : goal.invariant-loop-i
invariant-loop-i g l = at_region l.region (drop l.i (g.V.Sight.summaries l.sight)) ≡ at_region l.region (g.V.Sight.summaries l.sight)
