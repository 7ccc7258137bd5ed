use Rattle.std.proofs.Common.{◌∙◌}
use Rattle.cs_tree.proofs.Represented.{stands-read}
use Rattle.cs_tree.proofs.standing.AnyHasStandings.stands_at.Goals as goal

-- the representative is among the nodes
pub returns : goal.returns
returns g c = λ standing at.
    c.eq.ensures
    ∙ stands-read c.args.me c.args.colour c.args.place (g.V.Sight.summaries c.args.self.now) c.summary.result.now c.representative.result standing
    c.requires.colour c.summary.ensures c.representative.ensures at
