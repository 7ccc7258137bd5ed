-- The tree of a roomy part is good, and only own keys have children in it.
use Rattle.std.proofs.Common.{◌≡◌, ◌≢◌, ℕ, zero, suc, ◌+◌, ◌*◌, ◌<◌, ◌≤◌, ◌==◌, Bool, List, length, get_or, map, Contains, IsTrue}
use Rattle.std.proofs.Common.{Option, Some, None, refl, sym, subst, ◌∙◌, arith}
use Rattle.std.specs.List.{count_by, filter, list_any}
use Rattle.std.specs.Option.{option_map}
use Rattle.std.proofs.lemmas.Bool.{eq-eqb, ne_eqb}
use Rattle.std.proofs.Math.Nat.{mul-le-mul_left}
use Rattle.std.proofs.lemmas.Option.{none-some, same_Some}
use Rattle.std.proofs.lemmas.List.{length-map}
use Rattle.std.proofs.lemmas.List.Folds.{Any-from_list_any}
use Rattle.std.proofs.lemmas.List.Elements.{All-contains_itself, All-weaker}
use Rattle.std.proofs.lemmas.List.Sorted.{Contains-permutation, sum_by-IsPermutation}
use Rattle.std.proofs.lemmas.List.Sums.{length-filter}
use Rattle.cs_base.specs.Axes.{Axes}
use Rattle.cs_tree.specs.Good.{IsReached, IsTreeOver, parents_of}
use Rattle.cs_tree.specs.Skeleton.{Part, edges_down, root_of, tree_of}
use Rattle.cs_tree.specs.Tree.{Edge, RootedTree, children_of, edge_cmp, has_children}
use Rattle.cs_tree.specs.Order.{sorted_by}
use Rattle.cs_tree.proofs.Counts.{count, count_of, count-map, here, Contains-count, count-Contains, counted-Contains, nil-short}
use Rattle.cs_tree.proofs.Growing.{IsRoomy, root-in, IsShape-part}
use Rattle.cs_tree.proofs.Shapes.{IsShape, IsReached-more, kids, parents}
use Rattle.cs_tree.proofs.Sorting.{IsPermutation-sorted}

-- the children are so many as there are edges to them
length-children : (k : ℕ) (edges : List Edge) → length (children_of k edges) ≡ kids k edges
length-children k edges = length-map (filter (λ (e : Edge). e.parent == k) edges) _ ∙ length-filter (λ (e : Edge). e.parent == k) edges

-- and so with parents
length-parents : (k : ℕ) (edges : List Edge) → length (parents_of k edges) ≡ parents k edges
length-parents k edges = length-map (filter (λ (e : Edge). e.child == k) edges) _ ∙ length-filter (λ (e : Edge). e.child == k) edges

-- where one passes, one is counted
counted-any : {T : Type 0} (p : T → Bool) (ts : List T) → IsTrue (list_any p ts) → 0 < count_by p ts
counted-any p ts any = (let found = Any-from_list_any p ts any in counted-Contains p ts found.1 (found.0, found.2, found.3) found.4)

-- a product that isn't 0 has no factor that is
some-factor : (all m n : ℕ) → 0 < all → all ≤ m * n → 0 < n
some-factor all m zero some le = omega arith
some-factor all m (suc n) some le = omega arith

module _ (p root : ℕ) (edges : List Edge) (inner others keys : List ℕ) (shape : IsShape p root edges inner others)
    (all : (k : ℕ) → count k keys ≡ count k inner + count k others) (distinct : (k : ℕ) → count k keys ≤ 1) where
  abbrev in_order : List Edge
  in_order = sorted_by edge_cmp edges

  kids-sorted : (k : ℕ) → kids k in_order ≡ kids k edges
  kids-sorted k = sum_by-IsPermutation (λ (e : Edge). here e.parent k) edges in_order (IsPermutation-sorted edge_cmp edges)

  parents-sorted : (k : ℕ) → parents k in_order ≡ parents k edges
  parents-sorted k = sum_by-IsPermutation (λ (e : Edge). here e.child k) edges in_order (IsPermutation-sorted edge_cmp edges)

  -- a key with an edge is one of the keys
  Contains-parent : (e : Edge) → Contains in_order e → Contains keys e.parent
  Contains-parent e has =
      let some = counted-Contains (λ (d : Edge). d.parent == e.parent) in_order e has (eq-eqb e.parent e.parent refl) in
      let own = some-factor (kids e.parent edges) (p + 2) (count e.parent inner) (rw (← (kids-sorted e.parent)) some) (shape.few e.parent) in
      Contains-count e.parent keys (omega (arith, all e.parent, own))

  Contains-child : (e : Edge) → Contains in_order e → Contains keys e.child
  Contains-child e has =
      let some = counted-Contains (λ (d : Edge). d.child == e.child) in_order e has (eq-eqb e.child e.child refl) in
      Contains-count e.child keys (omega (arith, parents-sorted e.child, shape.placed e.child, all e.child))

  -- a key with children is an own one
  pub inner-has_children : (k : ℕ) → IsTrue (has_children k in_order) → 0 < count k inner
  inner-has_children k has =
      some-factor (kids k edges) (p + 2) (count k inner) (rw (← (kids-sorted k)) (counted-any (λ (e : Edge). e.parent == k) in_order has)) (shape.few k)

  -- a key has one edge that leads to it, and the root none
  parents-key : (k : ℕ) → parents k in_order + here root k ≡ count k keys
  parents-key k = omega (arith, parents-sorted k, shape.placed k, all k)

  -- and few edges that lead from it
  kids-key : (k : ℕ) → kids k in_order ≤ p + 2
  kids-key k =
      let one : (p + 2) * count k inner ≤ (p + 2) * 1 = mul-le-mul_left (p + 2) (omega (arith, distinct k, all k)) in
      omega (arith, kids-sorted k, shape.few k, one)

  -- it is a tree over the keys
  pub IsTreeOver-shape : IsTreeOver (p + 2) keys (record { root = root; edges = in_order })
  IsTreeOver-shape = record {
    root = Contains-count root keys (let one : here root root ≡ 1 = rw (eq-eqb root root refl) refl in omega (arith, shape.placed root, all root));
    within = All-weaker (Contains in_order) (λ (e : Edge). Contains keys e.parent × Contains keys e.child)
        (λ e has. (Contains-parent e has, Contains-child e has)) in_order (All-contains_itself in_order);
    reached = All-weaker (Contains keys) (IsReached in_order root)
        (λ k has. IsReached-more edges in_order (λ e. Contains-permutation edges in_order e (IsPermutation-sorted edge_cmp edges)) root k
        (shape.reached k (omega (arith, count-Contains k keys has, all k)))) keys (All-contains_itself keys);
    above_all = nil-short (parents_of root in_order)
        (let one : here root root ≡ 1 = rw (eq-eqb root root refl) refl in omega (arith, length-parents root in_order, parents-key root, distinct root));
    one_parent = All-weaker (Contains keys) (λ k. k ≢ root → length (parents_of k in_order) ≡ 1)
        (λ k has other. (
        let not_here : here root k ≡ 0 = rw (ne_eqb root k (λ e. other (sym e))) refl in
        omega (arith, length-parents k in_order, parents-key k, distinct k, count-Contains k keys has)
        )) keys (All-contains_itself keys);
    few_children = λ i d lt. omega (arith, length-children (get_or keys i d) in_order, kids-key (get_or keys i d));
  }

module _ {T : Type 0} (key : T → ℕ) (point : T → Axes) (p : ℕ) (part : Part T) (keys : List ℕ)
    (distinct : (k : ℕ) → count k keys ≤ 1) (all : (k : ℕ) → count k keys ≡ count_of key k part.own + count_of key k part.others)
    (few : 0 < length part.own → length part.others ≤ p * length part.own) where
  -- the tree of a part, where there are few others for each own element: a tree over the keys of both, in which only
  -- own ones have children
  pub record IsGoodPart (tree : RootedTree) : Type 0 where
    pub over : IsTreeOver (p + 2) keys tree
    pub inner : (k : ℕ) → IsTrue (has_children k tree.edges) → 0 < count_of key k part.own

  pub IsGoodPart-tree : (tree : RootedTree) → tree_of key point part ≡ Some tree → IsGoodPart tree
  IsGoodPart-tree tree made = go (root_of key point part.own) refl made
    where
      down : List Edge
      down = edges_down key point (length part.own) part

      all_keys : (k : ℕ) → count k keys ≡ count k (map key part.own) + count k (map key part.others)
      all_keys k = omega (arith, all k, count-map key k part.own, count-map key k part.others)

      of_root : (root : T) → root_of key point part.own ≡ Some root → IsGoodPart (record { root = key root; edges = sorted_by edge_cmp down })
      of_root root found =
          let roomy : IsRoomy key point p (length part.own) part = record {
            shallow = omega arith;
            distinct = λ k. omega (arith, distinct k, all k);
            few = few (omega (arith, (root-in key point part.own root found).1));
          } in
          let shape = IsShape-part key point p (length part.own) part root roomy found in
          record {
            over = IsTreeOver-shape p (key root) down (map key part.own) (map key part.others) keys shape all_keys distinct;
            inner = λ k has. rw (count-map key k part.own) at
                (inner-has_children p (key root) down (map key part.own) (map key part.others) keys shape all_keys distinct k has);
          }

      go : (r : Option T) → root_of key point part.own ≡ r
          → option_map (λ root. record { root = key root; edges = sorted_by edge_cmp down }) r ≡ Some tree → IsGoodPart tree
      go None found same = absurd (none-some tree same)
      go (Some root) found same = subst IsGoodPart (same_Some _ _ same) (of_root root found)
