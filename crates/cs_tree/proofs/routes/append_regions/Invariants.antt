use Rattle.std.proofs.Common.{◌≡◌, ◌++◌, take}
use Rattle.std.specs.List.{filter_map}
use Rattle.cs_tree.specs.Route.{passed_below}
use Rattle.cs_tree.proofs.routes.append_regions.Given as goal

abbrev pub invariant-loop-i : goal.invariant-loop-i
invariant-loop-i g l =
    l.offered.items ≡ l.initial.offered.items
    ++ filter_map (passed_below l.me (g.V.Sight.summaries l.sight) l.tree.edges l.region l.colour) (take l.i (g.V.Sight.summaries l.sight))
