-- The trees of what is seen of a group, kept together: the inter-region tree of each colour, and the local trees of
-- each known region.
use Rattle.std.specs.Prelude.{ℕ, List, map, Option, slice_get}
use Rattle.std.specs.List.{filter_map, range_with_len}
use Rattle.std.specs.Option.{option_and_then}
use Rattle.cs_base.specs.Limits.{colours}
use Rattle.cs_base.specs.declared.member.Member.{Member}
use Rattle.cs_roll.specs.Sight.{Rolls, Summaries, at_region}
use Rattle.cs_tree.specs.Inter.{inter_tree}
use Rattle.cs_tree.specs.Local.{local_trees}
use Rattle.cs_tree.specs.Tree.{RootedTree}

-- trees by ascending colour: those between regions, and beside each known region those of its members
pub record KeptTrees : Type 0 where
  pub between : List RootedTree
  pub within : List (ℕ × List RootedTree)

-- the inter-region trees, by ascending colour
abbrev pub inter_trees : Summaries → List RootedTree
inter_trees summaries = filter_map (λ colour. inter_tree colour summaries) (range_with_len 0 colours)

-- the local trees of each known region
abbrev pub known_trees : Rolls → List (ℕ × List RootedTree)
known_trees rolls = map (λ (pair : ℕ × List Member). (pair.0, local_trees pair.1)) rolls

abbrev pub kept_trees : Summaries → Rolls → KeptTrees
kept_trees summaries rolls = record { between = inter_trees summaries; within = known_trees rolls }

-- the kept local tree of a region and a colour
abbrev pub kept_local : ℕ → ℕ → KeptTrees → Option RootedTree
kept_local region colour kept =
    option_and_then (λ (trees : List RootedTree). slice_get trees colour) (at_region region kept.within)
