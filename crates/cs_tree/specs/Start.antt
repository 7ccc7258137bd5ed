-- Where a piece starts: whom the node that made it sends it to.
--
--     regions 0, 1, 2 with representatives 10, 20, 30     1        node 10 sends a piece of region 2 that it made to
--     for the colour                                     / \       20, who passes it on to 30. Node 20 sends one that
--                                                       0   2      it made to 30 at once, and nothing to itself
use Rattle.std.specs.Prelude.{ℕ, ◌==◌, if◌then◌else◌, List, [], ◌∷◌, ◌++◌, Option, None, Some}
use Rattle.std.specs.Option.{option_and_then}
use Rattle.cs_base.specs.declared.member.Member.{Member}
use Rattle.cs_roll.specs.Sight.{Rolls, Summaries}
use Rattle.cs_tree.specs.Inter.{inter_tree}
use Rattle.cs_tree.specs.Route.{Target, each_once, representative_at, route, target_of}
use Rattle.cs_tree.specs.Tree.{RootedTree}

-- the representative of the root of the inter-region tree
abbrev pub root_representative : ℕ → Summaries → Option Member
root_representative colour summaries =
    option_and_then (λ (tree : RootedTree). representative_at colour summaries tree.root) (inter_tree colour summaries)

-- it is a target, unless it is the node itself
abbrev pub to_inter_root : ℕ → Option Member → List Target
to_inter_root me None = []
to_inter_root me (Some member) = if member.id == me then [] else target_of member ∷ []

-- whom the node that made a piece sends it to: that one, and its own route, each id once
abbrev pub start : ℕ → Summaries → Rolls → ℕ → ℕ → List Target
start me summaries rolls region colour =
    each_once (to_inter_root me (root_representative colour summaries) ++ route me summaries rolls region colour)
