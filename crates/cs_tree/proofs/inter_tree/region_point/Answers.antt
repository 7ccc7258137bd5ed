use Rattle.std.proofs.Common.{sym}
use Rattle.cs_tree.proofs.RegionPoints.{region_points-more}
use Rattle.cs_tree.proofs.inter_tree.region_point.Goals as goal

-- its representative is there
pub returns : goal.returns
returns g c =
    let summaries = g.V.Sight.summaries c.args.sight.now in
    sym (region_points-more c.args.colour summaries c.args.i c.region-region.result c.summary.result.now c.representative-at.result c.requires.place
    c.region-region.ensures c.summary.ensures c.representative-at.ensures)
