use Rattle.std.proofs.Common.{◌≡◌, subst}
use Rattle.cs_tree.specs.Kept.{kept_trees}
use Rattle.cs_tree.proofs.with_trees.WithTrees.kept.Goals as goal

-- the type keeps them so
pub returns : goal.returns
returns g c =
    subst (λ now. c.self.inside.kept ≡ kept_trees (g.V.Sight.summaries now) (g.V.Sight.rolls now)) c.self.view_is c.self.invariant.0
