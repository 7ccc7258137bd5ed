use Rattle.std.proofs.Common.{sym, ◌∙◌}
use Rattle.cs_tree.proofs.Represented.{stands-for-is}
use Rattle.cs_tree.proofs.standing.AnyHasStandings.stands_for.Goals as goal

-- the representative is among the nodes
pub returns : goal.returns
returns g c =
    c.represents.ensures ∙ sym (stands-for-is c.args.me c.args.colour c.args.region (g.V.Sight.summaries c.args.self.now) c.requires.colour)
