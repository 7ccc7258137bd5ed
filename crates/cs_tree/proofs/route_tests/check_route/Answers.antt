use Rattle.cs_tree.proofs.Seen.{listed-place}
use Rattle.cs_tree.proofs.route_tests.check_route.Goals as goal

-- it was read
pub route-requires-clause-listed : goal.route-requires-clause-listed
route-requires-clause-listed g c =
    listed-place (g.V.Sight.summaries c.args.sight.now) c.args.place c.region-region.result c.requires.place c.region-region.ensures
