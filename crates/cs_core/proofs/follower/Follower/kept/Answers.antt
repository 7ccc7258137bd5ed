use Rattle.std.proofs.Common.{◌≡◌, ◌∙◌, Box, Global, Option, Some, sym, ap}
use Rattle.std.specs.Option.{option_map}
use Rattle.cs_core.specs.Node.{Following, Node}
use Rattle.cs_core.specs.Routing.{view_trees}
use Rattle.cs_core.proofs.follower.Follower.kept.Goals as goal

-- the trees are those of the member's view
pub returns-in-Some : goal.returns-in-Some
returns-in-Some c =
    let there : c.args.self.now.following ≡ Some c.in-Some.following.value =
    ap (λ (n : Node). n.following) (sym c.self.view_is) ∙ ap (option_map (λ (b : Box Following Global). b.value)) c.in-Some.is in
    ap Some (c.kept.ensures ∙ (ap view_trees c.with_trees.ensures.value ∙ ap (λ (m : Following). view_trees m.view) c.deref.ensures))
    ∙ sym (ap (λ (following : Option Following). option_map view_trees (option_map (λ (m : Following). m.view) following)) there)
