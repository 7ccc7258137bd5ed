-- What is placed in a tree that is being built: which keys stand in it, and which tree it is built into.
use Rattle.std.proofs.Common.{◌≡◌, ℕ, ◌+◌, ◌<◌, ◌≤◌, List, [], ◌∷◌, ◌++◌, length, get_or, map, take, Contains, Option, None, Some}
use Rattle.std.proofs.Common.{refl, sym, ap, ◌∙◌, append_assoc, arith}
use Rattle.std.specs.Option.{option_to_list}
use Rattle.std.proofs.lemmas.Bool.{eq-eqb}
use Rattle.std.proofs.lemmas.List.{length-append, length-map, map-append, take_more}
use Rattle.std.proofs.lemmas.List.Sorted.{length_permutation}
use Rattle.std.proofs.lemmas.List.Sums.{sum_by-append, sum_by-cons, sum_by-take-drop, sum_by_more}
use Rattle.std.proofs.lemmas.Option.{same_Some}
use Rattle.cs_tree.specs.Building.{HasRoom, Placement, built, number_of_keys, placed_edges, placed_keys, placements_of}
use Rattle.cs_tree.specs.Order.{sorted_by}
use Rattle.cs_tree.specs.Tree.{Edge, RootedTree, edge_cmp}
use Rattle.cs_tree.proofs.Counts.{Contains-count, count, count-Contains, count-map, here}
use Rattle.cs_tree.proofs.Shapes.{from_to, parents}
use Rattle.cs_tree.proofs.Sorting.{IsPermutation-sorted}

-- the key of a placement
abbrev pub key_in : Placement → ℕ
key_in placement = placement.1

-- the keys that edges place are their children
pub keys-of_edges : (edges : List Edge) → placed_keys (placements_of edges) ≡ map (λ (e : Edge). e.child) edges
keys-of_edges [] = refl
keys-of_edges (e ∷ edges) = ap (λ ks. e.child ∷ ks) (keys-of_edges edges)

-- how often a key is among the children
count-children : (k : ℕ) (edges : List Edge) → count k (map (λ (e : Edge). e.child) edges) ≡ parents k edges
count-children k edges = count-map (λ (e : Edge). e.child) k edges

-- with more placed below
pub count-placed : (k : ℕ) (before after : List Placement) (edges : List Edge) → after ≡ before ++ placements_of edges
    → count k (placed_keys after) ≡ count k (placed_keys before) + parents k edges
count-placed k before after edges is =
    let keys : placed_keys after ≡ placed_keys before ++ placed_keys (placements_of edges) =
    ap placed_keys is ∙ map-append key_in before (placements_of edges) in
    let both = sum_by-append (λ n. here n k) (placed_keys before) (placed_keys (placements_of edges)) in
    ap (count k) keys ∙ (both ∙ ap (λ n. count k (placed_keys before) + n) (ap (count k) (keys-of_edges edges) ∙ count-children k edges))

-- and so many more
pub length-placed : (before after : List Placement) (edges : List Edge) → after ≡ before ++ placements_of edges
    → length after ≡ length before + length edges
length-placed before after edges is =
    ap length is ∙ (length-append before (placements_of edges) ∙ ap (λ n. length before + n) (length-map edges _))

-- a key that isn't counted isn't there
pub not-in : (k : ℕ) (keys : List ℕ) → count k keys ≡ 0 → ¬ Contains keys k
not-in k keys none has = omega (arith, count-Contains k keys has)

-- a single key stands there once
pub count-one_key : (k : ℕ) → count k (k ∷ []) ≡ 1
count-one_key k =
    let one : here k k ≡ 1 = rw (eq-eqb k k refl) refl in
    omega (arith, sum_by-cons (λ n. here n k) k [], one)

-- the edges that were placed are the edges that were given
pub edges-placed : (edges : List Edge) → placed_edges (placements_of edges) ≡ edges
edges-placed [] = refl
edges-placed (e ∷ edges) = ap (λ es. e ∷ es) (edges-placed edges)

-- so the tree has them in order
pub built-of_edges : (root : ℕ) (edges : List Edge) (placed : List Placement) → placed ≡ (None, root) ∷ placements_of edges
    → built placed ≡ Some (record { root = root; edges = sorted_by edge_cmp edges })
built-of_edges root edges placed is =
    ap built is ∙ ap (λ es. Some (record { root = root; edges = sorted_by edge_cmp es })) (edges-placed edges)

-- and so many keys
pub keys-built : (root : ℕ) (edges : List Edge) (placed : List Placement) (tree : RootedTree) → placed ≡ (None, root) ∷ placements_of edges
    → built placed ≡ Some tree → number_of_keys tree ≡ length placed
keys-built root edges placed tree is made =
    let same : tree ≡ record { root = root; edges = sorted_by edge_cmp edges } =
    same_Some _ _ (sym made ∙ built-of_edges root edges placed is) in
    let ordered = length_permutation edges (sorted_by edge_cmp edges) (IsPermutation-sorted edge_cmp edges) in
    let placement : Edge → Placement = λ e. (Some e.parent, e.child) in
    let many : length placed ≡ 1 + length edges = omega (arith, ap length is, length-map edges placement) in
    ap number_of_keys same ∙ omega (arith, ordered, many)

-- what was placed in three parts
pub three-placed : (x1 x2 x3 all : List Edge) (b0 b1 b2 b3 : List Placement) → b1 ≡ b0 ++ placements_of x1 → b2 ≡ b1 ++ placements_of x2
    → b3 ≡ b2 ++ placements_of x3 → x1 ++ x2 ++ x3 ≡ all → b3 ≡ b0 ++ placements_of all
three-placed x1 x2 x3 all b0 b1 b2 b3 first second third all_is =
    let two : b2 ≡ b0 ++ placements_of x1 ++ placements_of x2 = second ∙ ap (λ b. b ++ placements_of x2) first in
    let three : b3 ≡ b0 ++ placements_of x1 ++ placements_of x2 ++ placements_of x3 = third ∙ ap (λ b. b ++ placements_of x3) two in
    three ∙ rw (← all_is) (simp (map-append, append_assoc))

module _ {T : Type 0} (key : T → ℕ) where
  -- the keys of a root, if it is there
  abbrev pub root_keys : Option T → List ℕ
  root_keys root = map key (option_to_list root)

  -- the edges to children
  abbrev pub below : ℕ → List T → List Edge
  below parent ts = map (λ t. from_to parent (key t)) ts

  -- each child is placed once
  pub count-below : (k parent : ℕ) (before after : List Placement) (ts : List T) → after ≡ before ++ placements_of (below parent ts)
      → count k (placed_keys after) ≡ count k (placed_keys before) + count k (map key ts)
  count-below k parent before after ts is =
      count-placed k before after (below parent ts) is ∙ ap (λ n. count k (placed_keys before) + n) (children ts)
    where
      children : (us : List T) → parents k (below parent us) ≡ count k (map key us)
      children [] = refl
      children (u ∷ us) =
          sum_by-cons (λ (e : Edge). here e.child k) (from_to parent (key u)) (below parent us)
          ∙ (ap (λ n. here (key u) k + n) (children us) ∙ sym (sum_by-cons (λ n. here n k) (key u) (map key us)))

  -- what stood there before is there still
  pub still-there : (k parent : ℕ) (before after : List Placement) (ts : List T) → after ≡ before ++ placements_of (below parent ts)
      → Contains (placed_keys before) k → Contains (placed_keys after) k
  still-there k parent before after ts is has =
      let more = count-below k parent before after ts is in
      let some = count-Contains k (placed_keys before) has in
      Contains-count k (placed_keys after) (omega (arith, more, some))

  -- where three lists of children are placed one after another
  module _ (ls rs ts : List T) where
    count-three : (k : ℕ) → count k (map key (ls ++ rs ++ ts)) ≡ count k (map key ls) + count k (map key rs) + count k (map key ts)
    count-three k =
        let f : T → ℕ = λ t. here (key t) k in
        omega (
          arith,
          sum_by-append f ls rs,
          sum_by-append f (ls ++ rs) ts,
          count-map key k (ls ++ rs ++ ts),
          count-map key k ls,
          count-map key k rs,
          count-map key k ts,
        )

    -- the edges to them follow one another
    pub below-three : (parent : ℕ) → below parent ls ++ below parent rs ++ below parent ts ≡ below parent (ls ++ rs ++ ts)
    below-three parent =
        let f : T → Edge = λ t. from_to parent (key t) in
        ap (λ es. es ++ below parent ts) (sym (map-append f ls rs)) ∙ sym (map-append f (ls ++ rs) ts)

    -- so many are they
    pub length-three : length (ls ++ rs ++ ts) ≡ length ls + length rs + length ts
    length-three = omega (arith, length-append ls rs, length-append (ls ++ rs) ts)

    module _ (placed : List Placement) (room : (k : ℕ) → count k (placed_keys placed) + count k (map key (ls ++ rs ++ ts)) ≤ 1) where
      -- there is room for those of each list in turn
      pub room-first : (k : ℕ) → count k (placed_keys placed) + count k (map key ls) ≤ 1
      room-first k = omega (arith, room k, count-three k)

      module _ (parent : ℕ) (one : List Placement) (first : one ≡ placed ++ placements_of (below parent ls)) where
        pub room-second : (k : ℕ) → count k (placed_keys one) + count k (map key rs) ≤ 1
        room-second k = omega (arith, room k, count-three k, count-below k parent placed one ls first)

        pub room-third : (two : List Placement) → two ≡ one ++ placements_of (below parent rs)
            → (k : ℕ) → count k (placed_keys two) + count k (map key ts) ≤ 1
        room-third two second k =
            omega (arith, room k, count-three k, count-below k parent placed one ls first, count-below k parent one two rs second)

  -- the next of some children is new where all have room
  pub next-new : (keys : List ℕ) (ts : List T) (i : ℕ) (t : T) → i < length ts → t ≡ get_or ts i t
      → ((k : ℕ) → count k keys + count k (map key ts) ≤ 1) → (now : List ℕ)
      → ((k : ℕ) → count k now ≡ count k keys + count k (map key (take i ts))) → ¬ Contains now (key t)
  next-new keys ts i t lt is room now are =
      let k = key t in
      let f : T → ℕ = λ u. here (key u) k in
      let more = sum_by_more f ts i t lt in
      let parted = sum_by-take-drop f ts (i + 1) in
      let one : f (get_or ts i t) ≡ 1 = ap f (sym is) ∙ rw (eq-eqb k k refl) refl in
      not-in k now (omega (arith, more, parted, one, room k, are k, count-map key k ts, count-map key k (take i ts)))

  -- and with it all so far are placed
  pub next-placed : (parent : ℕ) (ts : List T) (i : ℕ) (t : T) (first before after : List Placement) → i < length ts → t ≡ get_or ts i t
      → before ≡ first ++ placements_of (below parent (take i ts)) → after ≡ before ++ (Some parent, key t) ∷ []
      → after ≡ first ++ placements_of (below parent (take (i + 1) ts))
  next-placed parent ts i t first before after lt is so_far next =
      let more : take (i + 1) ts ≡ take i ts ++ t ∷ [] = take_more ts i t lt ∙ ap (λ u. take i ts ++ u ∷ []) (sym is) in
      next ∙ (ap (λ ps. ps ++ (Some parent, key t) ∷ []) so_far ∙ rw more (simp (map-append, append_assoc)))

  -- at first the root alone stands there, and there is room for all else
  pub room-of_root : (root : T) (own others : List T) (placed : List Placement) → placed ≡ (None, key root) ∷ []
      → ((k : ℕ) → count k (map key own) + count k (map key others) ≤ 1)
      → HasRoom (placed_keys placed) (key root ∷ []) (map key own) (map key others)
  room-of_root root own others placed is once =
      let keys : (k : ℕ) → count k (placed_keys placed) ≡ count k (key root ∷ []) = λ k. ap (λ ps. count k (placed_keys ps)) is in
      record { there = λ k. omega (arith, keys k); once = λ k. omega (arith, keys k, once k) }
