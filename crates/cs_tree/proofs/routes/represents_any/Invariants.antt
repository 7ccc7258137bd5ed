use Rattle.std.proofs.Common.{◌≡◌, false, take}
use Rattle.std.specs.List.{list_any}
use Rattle.cs_tree.proofs.Unoffered.{represents}
use Rattle.cs_tree.proofs.routes.represents_any.Given as goal

abbrev pub invariant-loop-i : goal.invariant-loop-i
invariant-loop-i g l = list_any (represents l.me l.colour) (take l.i (g.V.Sight.summaries l.sight)) ≡ false
