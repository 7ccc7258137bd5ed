use Rattle.std.proofs.Common.{◌≡◌, Some, sym, ap, ◌∙◌}
use Rattle.std.proofs.lemmas.Result.{IfOk-weaker}
use Rattle.cs_tree.specs.Inter.{inter_tree}
use Rattle.cs_tree.proofs.KeptTrees.{same-inter}
use Rattle.cs_tree.proofs.kept.renewed_between.Goals as goal

-- the same regions at the same points have the same tree
pub returns-then-are_same_points-clause-value : goal.returns-then-are_same_points-clause-value
returns-then-are_same_points-clause-value g c =
    let colour = c.args.colour in
    let before = g.V.Sight.summaries c.args.old.now in
    let now = g.V.Sight.summaries c.args.new.now in
    let same : inter_tree colour before ≡ inter_tree colour now =
    same-inter colour before now (c.are_same_points.ensures.same c.if-are_same_points.true) in
    IfOk-weaker c.shared_tree.result _ _ (λ tree is. sym same ∙ (c.requires.before ∙ ap Some (sym is))) c.shared_tree.ensures
