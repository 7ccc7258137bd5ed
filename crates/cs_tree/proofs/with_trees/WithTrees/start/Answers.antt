use Rattle.std.proofs.Common.{◌≡◌, ◌<◌, IfOk, length, slice_get, ap, sym, subst, ◌∙◌}
use Rattle.cs_tree.specs.Kept.{KeptTrees}
use Rattle.cs_tree.specs.Start.{start}
use Rattle.cs_tree.proofs.KeptTrees.{inter-at}
use Rattle.cs_tree.proofs.with_trees.WithTrees.start.Goals as goal

-- the kept tree of the colour is that of the sight
pub start-requires-clause-tree : goal.start-requires-clause-tree
start-requires-clause-tree g c =
    let colour = c.args.colour in
    let sight = c.self.inside.sight in
    let some = subst (λ now. 0 < length (g.V.Sight.summaries now)) (sym c.self.view_is) c.requires.some in
    sym (inter-at colour (g.V.Sight.summaries sight) (g.V.Sight.rolls sight) c.count-count.ensures.sight some c.requires.colour)
    ∙ (ap (λ (kept : KeptTrees). slice_get kept.between colour) (sym c.self.invariant.0) ∙ c.inter_tree-tree.ensures)

-- the sight is what the value stands for
pub returns : goal.returns
returns g c =
    let me = c.args.me in
    let region = c.args.region in
    let colour = c.args.colour in
    subst (λ now. IfOk c.start.result (λ targets. targets ≡ start me (g.V.Sight.summaries now) (g.V.Sight.rolls now) region colour))
    c.self.view_is c.start.ensures
