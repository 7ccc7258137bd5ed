-- The tree of what has keys and points, its own elements, with other elements below them as leaves. Only own
-- elements have children.
--
--     own 1 and 5 at x = 0 and 40        root       1, since both are as near to the centroid
--     others 2, 3, 4 at 10, 20, 30       on a side  own 5: all that is left
--     two of the others for each own     left       5 with 2 and 3, the first two of the others
--                                        leaves     4, of the two that may follow
use Rattle.std.specs.Prelude.{ℕ, zero, suc, ◌*◌, List, [], ◌++◌, length, map, take, drop, Option, Some, None}
use Rattle.std.specs.Prelude.{option_to_list}
use Rattle.std.specs.Int.{div_ceil}
use Rattle.std.specs.Option.{option_map}
use Rattle.cs_base.specs.Ascending.{without_key}
use Rattle.cs_base.specs.Axes.{Axes}
use Rattle.cs_base.specs.Split.{pair_cmp}
use Rattle.cs_base.specs.declared.point.Axis.{Axis}
use Rattle.cs_near.specs.Middle.{order_pair}
use Rattle.cs_near.specs.Nearest.{nearest}
use Rattle.cs_near.specs.Sums.{one_point, sum_of_points}
use Rattle.cs_near.specs.Widest.{widest_axis}
use Rattle.cs_tree.specs.Order.{sorted_by}
use Rattle.cs_tree.specs.Tree.{Edge, RootedTree, edge_cmp}

-- the elements from which one tree is made: its own, which may have children, and others, which are leaves
pub record Part (T : Type 0) : Type 0 where
  pub own : List T
  pub others : List T

-- a part taken apart: its root, what is left and right below the root, and the root's leaves
pub record Fork (T : Type 0) : Type 0 where
  pub root : T
  pub left : Part T
  pub leaves : List T
  pub right : Part T

-- the elements ordered on an axis: by coordinate, and of equal coordinates by key
abbrev pub ordered_on : {T : Type 0} → (T → ℕ) → (T → Axes) → Axis → List T → List T
ordered_on key point axis ts =
    sorted_by (λ t u. pair_cmp (order_pair key point axis t) (order_pair key point axis u)) ts

-- the root of some elements: the one nearest to the centroid of all, and of several the one with the least key
abbrev pub root_of : {T : Type 0} → (T → ℕ) → (T → Axes) → List T → Option T
root_of key point ts = nearest key (λ t. one_point (point t)) (sum_of_points point ts) ts

-- own elements and others are ordered on the widest axis of the own ones without the root. Of the own ones half,
-- rounded up, go to the left. For each own one so many of the others are taken: the first for those on the left,
-- the next for the root as its leaves. All that remain go to the right
abbrev pub fork_at : {T : Type 0} → (T → ℕ) → (T → Axes) → Part T → T → Fork T
fork_at key point part root =
    let rest = without_key key (key root) part.own in
    let axis = widest_axis point rest in
    let own = ordered_on key point axis rest in
    let others = ordered_on key point axis part.others in
    let half = div_ceil (length own) 2 in
    let each = div_ceil (length others) (length part.own) in
    let later = drop (each * half) others in
    record {
      root = root;
      left = record { own = take half own; others = take (each * half) others };
      leaves = take each later;
      right = record { own = drop half own; others = drop each later };
    }

abbrev pub fork : {T : Type 0} → (T → ℕ) → (T → Axes) → Part T → Option (Fork T)
fork key point part = option_map (fork_at key point part) (root_of key point part.own)

-- the children of a fork's root: the roots of both sides, where they have own elements, and its leaves
abbrev pub children_at : {T : Type 0} → (T → ℕ) → (T → Axes) → Fork T → List T
children_at key point f =
    option_to_list (root_of key point f.left.own) ++ option_to_list (root_of key point f.right.own) ++ f.leaves

-- the edges from a fork's root to its children, and those of both sides
abbrev pub edges_from : {T : Type 0} → (T → ℕ) → (T → Axes) → (Part T → List Edge) → Option (Fork T) → List Edge
edges_from key point edges_in None = []
edges_from key point edges_in (Some f) =
    map (λ child. record { parent = key f.root; child = key child }) (children_at key point f)
    ++ edges_in f.left ++ edges_in f.right

-- the edges of the tree of a part, down to a depth
abbrev pub edges_down : {T : Type 0} → (T → ℕ) → (T → Axes) → ℕ → Part T → List Edge
edges_down key point zero part = []
edges_down key point (suc depth) part = edges_from key point (edges_down key point depth) (fork key point part)

-- the tree of a part, where it has own elements: no tree is deeper than these are many
abbrev pub tree_of : {T : Type 0} → (T → ℕ) → (T → Axes) → Part T → Option RootedTree
tree_of key point part =
    option_map (λ root. record {
      root = key root;
      edges = sorted_by edge_cmp (edges_down key point (length part.own) part);
    }) (root_of key point part.own)

-- the skeleton of some elements is their tree without others
abbrev pub skeleton : {T : Type 0} → (T → ℕ) → (T → Axes) → List T → Option RootedTree
skeleton key point ts = tree_of key point (record { own = ts; others = [] })
