use Rattle.std.proofs.Common.{◌<◌, IsSome, length, sym, subst}
use Rattle.cs_roll.specs.Sight.{at_region}
use Rattle.cs_tree.proofs.Seen.{listed-place}
use Rattle.cs_tree.proofs.route_tests.check_beside.Goals as goal

-- it was read
pub route-requires-clause-listed : goal.route-requires-clause-listed
route-requires-clause-listed g c =
    let lt = subst (λ now. c.args.place < length (g.V.Sight.summaries now)) (sym c.sight.ensures) c.requires.place in
    subst (λ now. IsSome (at_region c.region-region.result (g.V.Sight.summaries now))) c.sight.ensures
    (listed-place (g.V.Sight.summaries c.sight.result.now) c.args.place c.region-region.result lt c.region-region.ensures)
