-- A tree that is being built: its keys in the order of placing, each with the parent that it was placed below. The
-- first key has none.
--
--     (none, 1) (1, 4) (1, 5) (5, 2) (5, 3)      is built into      1
--                                                                  / \
--                                                                 4   5
--                                                                    / \
--                                                                   2   3
use Rattle.std.specs.Prelude.{ℕ, ◌+◌, ◌≤◌, ◌==◌, List, [], ◌∷◌, length, map, Option, None, Some}
use Rattle.std.specs.List.{count_by, filter_map}
use Rattle.std.specs.Option.{option_map, option_map_or}
use Rattle.cs_tree.specs.Order.{sorted_by}
use Rattle.cs_tree.specs.Tree.{Edge, RootedTree, edge_cmp}

-- a parent, or none, and a key below it
abbrev pub Placement : Type 0
Placement = Option ℕ × ℕ

abbrev pub placed_keys : List Placement → List ℕ
placed_keys placements = map (λ (p : Placement). p.1) placements

-- how often a key stands among some
abbrev pub times : ℕ → List ℕ → ℕ
times key keys = count_by (λ k. k == key) keys

-- the edge to a key from its parent
abbrev pub edge_to : Placement → Option Edge
edge_to placement = option_map (λ parent. record { parent = parent; child = placement.1 }) placement.0

abbrev pub placed_edges : List Placement → List Edge
placed_edges placements = filter_map edge_to placements

-- the keys below their parents that give these edges
abbrev pub placements_of : List Edge → List Placement
placements_of edges = map (λ (e : Edge). (Some e.parent, e.child)) edges

-- the tree that was built: its root is the first key
abbrev pub built : List Placement → Option RootedTree
built [] = None
built (first ∷ rest) = Some (record { root = first.1; edges = sorted_by edge_cmp (placed_edges (first ∷ rest)) })

-- how many keys a tree has: the root, and the child of each edge
abbrev pub number_of_keys : RootedTree → ℕ
number_of_keys tree = 1 + length tree.edges

-- the same of a tree that may be there
abbrev pub number_of_keys_in : Option RootedTree → ℕ
number_of_keys_in tree = option_map_or number_of_keys tree 0

-- room below roots that stand in a tree, for elements of which these are the roots, and for others below them: each
-- of the other keys is new, and none of them would stand there twice
pub record HasRoom (placed roots own others : List ℕ) : Type 0 where
  pub there : (k : ℕ) → times k roots ≤ times k placed
  pub once : (k : ℕ) → times k placed + times k own + times k others ≤ 1 + times k roots
