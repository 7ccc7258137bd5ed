use Rattle.std.proofs.Common.{ℕ, List, Option, take, ◌≤◌, ◌<◌, ◌∷◌, [], ◌++◌, length, ap, ◌∙◌, arith}
use Rattle.std.proofs.lemmas.List.{take_all}
use Rattle.cs_tree.specs.Standing.{standings}
use Rattle.cs_tree.proofs.Represented.{standings-more}
use Rattle.cs_tree.proofs.standing.Standings.new.Goals as goal

-- one more region has its standing
pub loop-i-preserved : goal.loop-i-preserved
loop-i-preserved g c =
    let summaries = g.V.Sight.summaries c.args.sight.now in
    let lt : c.loop-i.i < length summaries = omega (arith, c.loop-i-test.true, c.count-i-end.ensures.count) in
    c.in_ok-push.ensures.items
    ∙ (ap (λ list. list ++ c.new.result ∷ []) c.loop-i.invariant
    ∙ (ap (λ (s : ℕ × List (Option ℕ)). standings (take c.loop-i.i summaries) ++ s ∷ []) c.new.ensures
    ∙ standings-more summaries c.loop-i.i c.region.result c.summary.result.now lt c.region.ensures c.summary.ensures))

-- at last all have
pub returns : goal.returns
returns g c =
    let summaries = g.V.Sight.summaries c.args.sight.now in
    let le : length summaries ≤ c.loop-i.i = omega (arith, c.count-i-end.ensures.count) in
    c.loop-i.invariant ∙ ap standings (take_all c.loop-i.i summaries le)
