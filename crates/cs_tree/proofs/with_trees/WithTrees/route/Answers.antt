use Rattle.std.proofs.Common.{◌≡◌, IfOk, subst}
use Rattle.cs_tree.specs.Route.{route}
use Rattle.cs_tree.proofs.with_trees.WithTrees.route.Goals as goal

-- the sight is what the value stands for
pub returns : goal.returns
returns g c =
    let me = c.args.me in
    let region = c.args.region in
    let colour = c.args.colour in
    subst (λ now. IfOk c.route_by.result (λ targets. targets ≡ route me (g.V.Sight.summaries now) (g.V.Sight.rolls now) region colour))
    c.self.view_is c.route_by.ensures
