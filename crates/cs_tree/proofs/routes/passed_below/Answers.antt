use Rattle.std.proofs.Common.{◌≡◌, ℕ, false, true, Some, refl, sym, ap, ◌∙◌}
use Rattle.std.specs.Option.{option_and_then, option_map}
use Rattle.std.proofs.lemmas.Option.{same_Some}
use Rattle.cs_roll.specs.Summary.{RegionSummary}
use Rattle.cs_tree.specs.Colour.{representative}
use Rattle.cs_tree.specs.Route.{child_towards, is_node, representative_at, target_of}
use Rattle.cs_tree.proofs.Represented.{stands-above}
use Rattle.cs_tree.proofs.routes.passed_below.Goals as goal

-- nothing, where the node doesn't represent the region
pub returns-then-not-stands_at : goal.returns-then-not-stands_at
returns-then-not-stands_at g c = λ above at.
    let is : is_node c.args.me (representative c.args.colour above.1) ≡ false =
    sym (stands-above c.args.me c.args.colour c.args.place (g.V.Sight.summaries c.args.sight.now) (g.S.HasStandings.standings c.args.represented.now) above
    c.stands_at.result c.requires.colour c.requires.represented at c.stands_at.ensures) ∙ c.if-not-stands_at.true in
    rw is refl

-- or the representative of the next region below
pub returns : goal.returns
returns g c = λ above at.
    let summaries = g.V.Sight.summaries c.args.sight.now in
    let is : is_node c.args.me (representative c.args.colour above.1) ≡ true =
    sym (stands-above c.args.me c.args.colour c.args.place summaries (g.S.HasStandings.standings c.args.represented.now) above
    c.stands_at.result c.requires.colour c.requires.represented at c.stands_at.ensures) ∙ c.if-not-stands_at.false in
    let read : Some above.0 ≡ Some c.region.result = sym (ap (option_map (λ (pair : ℕ × RegionSummary). pair.0)) at) ∙ c.region.ensures in
    let region_is : above.0 ≡ c.get-above.result = same_Some above.0 c.region.result read ∙ sym c.get-above.ensures.value in
    let child : child_towards summaries c.args.tree.now.edges above.0 c.args.region ≡ Some c.in_ok-child.child =
    rw (region_is, ← c.count.ensures.count, ← c.get.ensures.value) (sym c.in_ok-child.ensures) in
    let next = ap (λ o. option_map target_of (option_and_then (representative_at c.args.colour summaries) o)) child in
    rw is (ap (option_map target_of) c.in_ok-next.ensures ∙ sym next)
