use Rattle.std.proofs.Common.{◌≡◌, ◌++◌, Some, List, slice_get, ap, sym, ◌∙◌}
use Rattle.std.proofs.lemmas.Result.{IfOk-weaker}
use Rattle.cs_roll.specs.Sight.{at_region}
use Rattle.cs_tree.specs.Inter.{inter_tree}
use Rattle.cs_tree.specs.Kept.{KeptTrees}
use Rattle.cs_tree.specs.Route.{Target, each_once, is_node, representative_at, route, to_known, to_regions}
use Rattle.cs_tree.proofs.KeptTrees.{inter-at}
use Rattle.cs_tree.proofs.Seen.{some-listed}
use Rattle.cs_tree.proofs.kept.Kept.route_by.Goals as goal

-- by the rules along the kept trees
pub returns : goal.returns
returns g c =
    let me = c.args.me in
    let region = c.args.region in
    let colour = c.args.colour in
    let summaries = g.V.Sight.summaries c.args.sight.now in
    let rolls = g.V.Sight.rolls c.args.sight.now in
    let tree = c.inter_tree-tree.result.now in
    let some = some-listed region summaries c.requires.listed in
    let made : inter_tree colour summaries ≡ Some tree =
    sym (inter-at colour summaries rolls c.count-count.ensures.sight some c.requires.colour)
    ∙ (ap (λ (kept : KeptTrees). slice_get kept.between colour) (sym c.requires.kept) ∙ c.inter_tree-tree.ensures) in
    let regions : c.append_regions.new.offered.items ≡ to_regions me summaries region colour (inter_tree colour summaries) =
    c.in_ok-append_regions.ensures
    ∙ (ap (λ offered. offered ++ to_regions me summaries region colour (Some tree)) c.new-offered.ensures.items
    ∙ ap (to_regions me summaries region colour) (sym made)) in
    let known = to_known me (is_node me (representative_at colour summaries region)) colour (at_region region rolls) in
    let whole : c.deref.result.now ≡ to_regions me summaries region colour (inter_tree colour summaries) ++ known =
    c.deref.ensures.value ∙ (c.in_ok-append_in_region.ensures ∙ ap (λ offered. offered ++ known) regions) in
    let found : List Target → Type 0 = λ targets. targets ≡ each_once c.deref.result.now in
    let wanted : List Target → Type 0 = λ targets. targets ≡ route me summaries rolls region colour in
    IfOk-weaker c.each_once.result found wanted (λ targets is. is ∙ ap each_once whole) c.each_once.ensures
