use Rattle.std.proofs.Common.{◌≡◌, ◌++◌, Bool, false, Some, sym, subst, ap, ◌∙◌}
use Rattle.std.specs.Option.{option_map, option_map_or}
use Rattle.cs_roll.specs.Sight.{IsByRegion, at_region}
use Rattle.cs_tree.specs.Local.{local_trees}
use Rattle.cs_tree.specs.Route.{is_node, representative_at, to_known}
use Rattle.cs_tree.specs.Standing.{NodesByRegion, stands}
use Rattle.cs_tree.proofs.KeptTrees.{trees-at}
use Rattle.cs_tree.proofs.Represented.{standings-ascend, stands-for-is}
use Rattle.cs_tree.proofs.kept_routes.append_in_region.Goals as goal

-- the trees of a known region stand beside it
pub append_known-requires-clause-kept : goal.append_known-requires-clause-kept
append_known-requires-clause-kept g c =
    ap (at_region c.args.region) c.requires.kept
    ∙ (trees-at c.args.region (g.V.Sight.rolls c.args.sight.now) ∙ ap (option_map local_trees) (sym c.in-Some.ensures.value))

-- the regions ascend
pub stands_for-is_representative-requires-clause-ascending : goal.stands_for-is_representative-requires-clause-ascending
stands_for-is_representative-requires-clause-ascending g c =
    subst IsByRegion (sym c.requires.represented)
    (standings-ascend (g.V.Sight.summaries c.args.sight.now) c.count-count.ensures.sight.summaries_ascend)

-- the node represents the region where its representative is the node
pub returns-in_ok-append_known : goal.returns-in_ok-append_known
returns-in_ok-append_known g c =
    let me = c.args.me in
    let colour = c.args.colour in
    let summaries = g.V.Sight.summaries c.args.sight.now in
    let before = c.args.offered.now.items in
    let stands_there : c.stands_for-is_representative.result ≡ is_node me (representative_at colour summaries c.args.region) =
    c.stands_for-is_representative.ensures
    ∙ (ap (λ (pairs : NodesByRegion). option_map_or (stands me colour) (at_region c.args.region pairs) false) c.requires.represented
    ∙ stands-for-is me colour c.args.region summaries c.requires.colour) in
    c.in_ok-append_known.ensures
    ∙ (ap (λ (is : Bool). before ++ to_known me is colour (Some c.in-Some.roll.now)) stands_there
    ∙ ap (λ known. before ++ to_known me (is_node me (representative_at colour summaries c.args.region)) colour known) c.in-Some.ensures.value)
