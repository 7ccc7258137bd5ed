use Rattle.cs_tree.proofs.Seen.{read-sizes}
use Rattle.cs_tree.proofs.routes.known_roll.Goals as goal

-- its summary is listed
pub returns-clause-some : goal.returns-clause-some
returns-clause-some g c =
    (read-sizes (g.V.Sight.summaries c.args.sight.now) (g.V.Sight.rolls c.args.sight.now) c.args.region c.roll.result c.count-count.ensures.sight
    c.roll.ensures).0

pub returns-clause-few : goal.returns-clause-few
returns-clause-few g c =
    (read-sizes (g.V.Sight.summaries c.args.sight.now) (g.V.Sight.rolls c.args.sight.now) c.args.region c.roll.result c.count-count.ensures.sight
    c.roll.ensures).1
