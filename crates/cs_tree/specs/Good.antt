-- Good trees, whoever made them: each key is reached from the root, and by one way alone, no key has too many
-- children, and no key has children in two of the trees.
--
--           1            good over 1 to 5: the edges lead from 1 to each, and each but 1 has one parent.
--          / \           An edge 3>1 would give the root a parent, an edge 4>2 would give 2 a second one, and without
--         4   5          the edge 5>2 no edge would lead to 2
--            / \
--           2   3
use Rattle.std.specs.Prelude.{◌≡◌, ◌≢◌, ℕ, ◌≤◌, ◌==◌, min, IsTrue, List, [], ◌∷◌, length, map, All, AllPairs, Contains}
use Rattle.std.specs.List.{filter}
use Rattle.cs_base.specs.Limits.{colours, most_children}
use Rattle.cs_tree.specs.Tree.{Edge, RootedTree, children_of, has_children}

-- from one key the edges lead by way of others, one after another, to the last
abbrev pub IsPath : List Edge → ℕ → List ℕ → ℕ → Type 0
IsPath edges from [] to = from ≡ to
IsPath edges from (next ∷ path) to =
    Contains edges (record { parent = from; child = next }) × IsPath edges next path to

-- the edges lead from one key to the other
abbrev pub IsReached : List Edge → ℕ → ℕ → Type 0
IsReached edges from to = (path : List ℕ) × IsPath edges from path to

-- the parents of a key
abbrev pub parents_of : ℕ → List Edge → List ℕ
parents_of key edges = map (λ (e : Edge). e.parent) (filter (λ (e : Edge). e.child == key) edges)

-- a tree over just these keys, in which none has more children than so many
pub record IsTreeOver (most : ℕ) (keys : List ℕ) (tree : RootedTree) : Type 0 where
  pub root : Contains keys tree.root
  pub within : All (λ (e : Edge). Contains keys e.parent × Contains keys e.child) tree.edges
  pub reached : All (IsReached tree.edges tree.root) keys
  pub above_all : parents_of tree.root tree.edges ≡ []
  pub one_parent : All (λ key. key ≢ tree.root → length (parents_of key tree.edges) ≡ 1) keys
  pub few_children : All (λ key. length (children_of key tree.edges) ≤ most) keys

-- no key has children in both trees
abbrev pub AreDisjoint : RootedTree → RootedTree → Type 0
AreDisjoint one other = (key : ℕ) → IsTrue (has_children key one.edges) → ¬ IsTrue (has_children key other.edges)

-- the local trees of a region with such members: as many as there are colours among them, each good, and no member has
-- children in two
pub record AreGood (ids : List ℕ) (trees : List RootedTree) : Type 0 where
  pub for_colours : length trees ≡ min colours (length ids)
  pub each : All (IsTreeOver most_children ids) trees
  pub disjoint : AllPairs AreDisjoint trees
