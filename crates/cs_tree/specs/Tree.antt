-- A tree: its root, and its edges in ascending order.
--
--           1            root   1
--          / \           edges  1>4  1>5  5>2  5>3
--         4   5
--            / \         the children of 5 are 2 and 3, and its parent is 1
--           2   3
use Rattle.std.specs.Prelude.{◌≡◌, ℕ, ◌==◌, Bool, List, map, Option, IsSorted}
use Rattle.std.specs.declared.cmp.Ordering.{Ordering}
use Rattle.std.specs.List.{filter, find, list_any}
use Rattle.std.specs.Option.{option_map}
use Rattle.std.specs.Ordering.{nat_cmp, ordering_then}
pub use Rattle.cs_tree.specs.declared.edge.Edge.{Edge}

pub record RootedTree : Type 0 where
  pub root : ℕ
  pub edges : List Edge

-- of two edges the one with the lower parent is below, and of equal parents the one with the lower child
abbrev pub edge_cmp : Edge → Edge → Ordering
edge_cmp d e = ordering_then (nat_cmp d.parent e.parent) (nat_cmp d.child e.child)

-- the children of a key
abbrev pub children_of : ℕ → List Edge → List ℕ
children_of key edges = map (λ (e : Edge). e.child) (filter (λ (e : Edge). e.parent == key) edges)

-- whether a key has children
abbrev pub has_children : ℕ → List Edge → Bool
has_children key edges = list_any (λ (e : Edge). e.parent == key) edges

-- the parent of a key, where an edge leads to it
abbrev pub parent_of : ℕ → List Edge → Option ℕ
parent_of key edges = option_map (λ (e : Edge). e.parent) (find (λ (e : Edge). e.child == key) edges)

-- what a tree keeps: its edges ascending, and the children of these
pub record IsIndexed (edges : List Edge) (children : List ℕ) : Type 0 where
  pub ascending : IsSorted edge_cmp edges
  pub their_children : children ≡ map (λ (e : Edge). e.child) edges
