-- The tree of a part has each key once, and few children for each own key.
use Rattle.std.proofs.Common.{◌≡◌, ℕ, zero, suc, ◌+◌, ◌-◌, ◌*◌, ◌<◌, ◌≤◌, ◌==◌, cond, List, [], ◌∷◌, ◌++◌, length, take, drop, map, Contains}
use Rattle.std.proofs.Common.{Option, Some, None, refl, sym, subst, ap, ◌∙◌, inl, inr, ◌⊎◌, min, arith}
use Rattle.std.specs.Int.{div_ceil}
use Rattle.std.specs.List.{sum_by, AllByRecursion}
use Rattle.std.specs.Option.{option_map, option_to_list}
use Rattle.std.proofs.Math.Nat.{mul-le-mul_right, mul-le-mul_left, lt_of_mul-lt-mul_right}
use Rattle.std.proofs.lemmas.Bool.{cases_lt}
use Rattle.std.proofs.lemmas.Option.{none-some}
use Rattle.std.proofs.lemmas.Grind.{div_ceil_times}
use Rattle.std.proofs.lemmas.List.{length-map, length-drop, length-take, map-append}
use Rattle.std.proofs.lemmas.List.Elements.{All-contains_itself, recursion_from_All, Contains-append_left, Contains-append_right, Contains-append_cases}
use Rattle.std.proofs.lemmas.List.Sorted.{length_permutation, sum_by-IsPermutation}
use Rattle.std.proofs.lemmas.List.Sums.{sum_by-append, sum_by-take-drop}
use Rattle.cs_base.specs.Ascending.{without_key}
use Rattle.cs_base.specs.Axes.{Axes}
use Rattle.cs_near.specs.Sums.{one_point, sum_of_points}
use Rattle.cs_near.specs.Nearest.{nearness_cmp}
use Rattle.std.specs.List.{list_all}
use Rattle.std.specs.Ordering.{is_le}
use Rattle.cs_near.proofs.Found.{find-holds}
use Rattle.cs_near.proofs.Nearness.{nearest-some}
use Rattle.cs_tree.specs.Skeleton.{Part, Fork, edges_down, edges_from, fork, fork_at, ordered_on, root_of}
use Rattle.cs_tree.specs.Tree.{Edge}
use Rattle.cs_near.specs.Widest.{widest_axis}
use Rattle.cs_base.specs.declared.point.Axis.{Axis}
use Rattle.cs_tree.proofs.Counts.{count, count_of, nil-short, here, AreDistinct, count_of-parted, length-parted, count-map}
use Rattle.cs_tree.proofs.Shapes.{IsShape, IsHung, IsHung-none, IsHung-tree, IsShape-node, from_to, leaf_edges}
use Rattle.cs_tree.proofs.Sorting.{IsPermutation-sorted}

-- so many for each, rounded up: enough for all, and no more than the bound
each-bounds : (n m p : ℕ) → 0 < m → n ≤ p * m → (n ≤ div_ceil n m * m) × (div_ceil n m ≤ p)
each-bounds n m p some few =
    let bounds = div_ceil_times n m some in
    let below : div_ceil n m * m < (p + 1) * m = omega (arith, bounds.1) in
    (bounds.0, omega (arith, lt_of_mul-lt-mul_right m {m = div_ceil n m} {n = p + 1} below))

-- half, rounded up
half-bounds : (n : ℕ) → (div_ceil n 2 ≤ n) × (n ≤ div_ceil n 2 * 2)
half-bounds n = (let bounds = div_ceil_times n 2 (omega arith) in (omega (arith, bounds.1), bounds.0))

-- what goes to the left is few enough, and so is what remains for the right
part-bounds : (half rest each others p : ℕ) → each ≤ p → others ≤ each * (half + rest + 1)
    → (min (each * half) others ≤ p * half) × (others - each * half - each ≤ p * rest)
part-bounds half rest each others p few enough =
    let left : each * half ≤ p * half = mul-le-mul_right half few in
    let right : each * rest ≤ p * rest = mul-le-mul_right rest few in
    (omega arith, omega arith)

-- a sum over three lists that are changed, and two more
sum-of_five : {S T : Type 0} (f : T → ℕ) (g : S → T) (a b c : List S) (l r : List T)
    → sum_by f (map g (a ++ b ++ c) ++ l ++ r) ≡ sum_by f (map g c) + sum_by f (map g a ++ l) + sum_by f (map g b ++ r)
sum-of_five f g a b c l r = simp (map-append, sum_by-append) (omega arith)

-- what stands in three of these parts stands in the whole
Contains-of_five : {S T : Type 0} (g : S → T) (a b c : List S) (l r : List T) (t : T)
    → Contains (map g c) t ⊎ (Contains (map g a ++ l) t ⊎ Contains (map g b ++ r) t) → Contains (map g (a ++ b ++ c) ++ l ++ r) t
Contains-of_five g a b c l r t has = rw (map-append g (a ++ b) c, map-append g a b) (by_part has)
  where
    in_first : Contains (map g a) t → Contains (map g a ++ map g b ++ map g c ++ l ++ r) t
    in_first has =
        Contains-append_left (map g a ++ map g b ++ map g c ++ l) r t
        (Contains-append_left (map g a ++ map g b ++ map g c) l t
        (Contains-append_left (map g a ++ map g b) (map g c) t (Contains-append_left (map g a) (map g b) t has)))

    in_second : Contains (map g b) t → Contains (map g a ++ map g b ++ map g c ++ l ++ r) t
    in_second has =
        Contains-append_left (map g a ++ map g b ++ map g c ++ l) r t
        (Contains-append_left (map g a ++ map g b ++ map g c) l t
        (Contains-append_left (map g a ++ map g b) (map g c) t (Contains-append_right (map g a) (map g b) t has)))

    in_third : Contains (map g c) t → Contains (map g a ++ map g b ++ map g c ++ l ++ r) t
    in_third has =
        Contains-append_left (map g a ++ map g b ++ map g c ++ l) r t
        (Contains-append_left (map g a ++ map g b ++ map g c) l t (Contains-append_right (map g a ++ map g b) (map g c) t has))

    in_fourth : Contains l t → Contains (map g a ++ map g b ++ map g c ++ l ++ r) t
    in_fourth has = Contains-append_left (map g a ++ map g b ++ map g c ++ l) r t (Contains-append_right (map g a ++ map g b ++ map g c) l t has)

    in_fifth : Contains r t → Contains (map g a ++ map g b ++ map g c ++ l ++ r) t
    in_fifth has = Contains-append_right (map g a ++ map g b ++ map g c ++ l) r t has

    by_part : Contains (map g c) t ⊎ (Contains (map g a ++ l) t ⊎ Contains (map g b ++ r) t) → Contains (map g a ++ map g b ++ map g c ++ l ++ r) t
    by_part (inl has) = in_third has
    by_part (inr (inl has)) = elim (Contains-append_cases (map g a) l t has) [ inl on_edge ↦ in_first on_edge | inr below ↦ in_fourth below ]
    by_part (inr (inr has)) = elim (Contains-append_cases (map g b) r t has) [ inl on_edge ↦ in_second on_edge | inr below ↦ in_fifth below ]

module _ {T : Type 0} (key : T → ℕ) (point : T → Axes) where
  -- the edges to leaves with such keys
  leaf_edges-keys : (root : ℕ) (ts : List T) → leaf_edges root (map key ts) ≡ map (λ t. from_to root (key t)) ts
  leaf_edges-keys root [] = refl
  leaf_edges-keys root (t ∷ ts) = ap (λ es. from_to root (key t) ∷ es) (leaf_edges-keys root ts)

  -- the keys of some elements
  abbrev pub keys : List T → List ℕ
  keys ts = map key ts

  -- the root is one of them
  pub root-in : (ts : List T) (root : T) → root_of key point ts ≡ Some root → Contains ts root
  root-in ts root found =
      (find-holds (Contains ts) (λ t. list_all (λ u. is_le (nearness_cmp key (λ v. one_point (point v)) (sum_of_points point ts) t u)) ts) ts root
      (recursion_from_All (Contains ts) ts (All-contains_itself ts)) found).0

  -- some elements have a root
  pub root-some : (ts : List T) → 0 < length ts → (root : T) × (root_of key point ts ≡ Some root)
  root-some ts some = nearest-some key (λ t. one_point (point t)) (sum_of_points point ts) ts some (ones ts)
    where
      ones : (us : List T) → AllByRecursion (λ (u : T). 0 < 1) us
      ones [] = tt
      ones (u ∷ us) = (omega arith, ones us)

  -- what hangs below a root in place of a part: an edge to the part's own root, if it has one, and the edges below that
  abbrev hung : ℕ → ℕ → Part T → List Edge
  hung root depth part = map (λ child. from_to root (key child)) (option_to_list (root_of key point part.own)) ++ edges_down key point depth part

  -- the key counts of a list in order are those of the list
  pub count-ordered : (axis : Axis) (ts : List T) (k : ℕ) → count_of key k (ordered_on key point axis ts) ≡ count_of key k ts
  count-ordered axis ts k = sum_by-IsPermutation (λ t. here (key t) k) ts _ (IsPermutation-sorted _ ts)

  length-ordered : (axis : Axis) (ts : List T) → length (ordered_on key point axis ts) ≡ length ts
  length-ordered axis ts = length_permutation ts _ (IsPermutation-sorted _ ts)

  -- a part that can be made into a tree with so many others for each own element
  pub record IsRoomy (p depth : ℕ) (part : Part T) : Type 0 where
    pub shallow : length part.own ≤ depth
    pub distinct : AreDistinct key part.own
    pub few : length part.others ≤ p * length part.own

  -- no elements have no root
  pub edges-none : (depth : ℕ) (part : Part T) → root_of key point part.own ≡ None → edges_down key point depth part ≡ []
  edges-none zero part none = refl
  edges-none (suc depth) part none = rw none refl

  -- what hangs below a root in place of a roomy part, where each roomy part with a root gives a tree
  IsHung-part : (p root depth : ℕ) (part : Part T) → IsRoomy p depth part
      → ((below : T) → root_of key point part.own ≡ Some below
      → IsShape p (key below) (edges_down key point depth part) (keys part.own) (keys part.others))
      → IsHung p root (hung root depth part) (keys part.own) (keys part.others)
  IsHung-part p root depth part roomy grows = go (root_of key point part.own) refl
    where
      no-root : root_of key point part.own ≡ None → length part.own ≤ 0
      no-root none = elim (cases_lt 0 (length part.own)) [
        | inl some ↦ absurd (let one = root-some part.own some in none-some one.0 (sym none ∙ one.1))
        | inr short ↦ short
      ]

      go : (r : Option T) → root_of key point part.own ≡ r
          → IsHung p root (map (λ child. from_to root (key child)) (option_to_list r) ++ edges_down key point depth part) (keys part.own) (keys part.others)
      go None none =
          let own_nil : part.own ≡ [] = nil-short part.own (no-root none) in
          let others_nil : part.others ≡ [] = nil-short part.others (omega (arith, roomy.few, mul-le-mul_left p (no-root none))) in
          rw (edges-none depth part none, own_nil, others_nil) (IsHung-none p root)
      go (Some below) found = IsHung-tree p root (key below) (edges_down key point depth part) (keys part.own) (keys part.others) (grows below found)

  module _ (p : ℕ) (part : Part T) (root : T) (distinct : AreDistinct key part.own) (few : length part.others ≤ p * length part.own)
      (found : root_of key point part.own ≡ Some root) where
    -- the fork, and its numbers
    abbrev the_fork : Fork T
    the_fork = fork_at key point part root

    abbrev rest : List T
    rest = without_key key (key root) part.own

    abbrev axis : Axis
    axis = widest_axis point rest

    abbrev own : List T
    own = ordered_on key point axis rest

    abbrev others : List T
    others = ordered_on key point axis part.others

    abbrev half : ℕ
    half = div_ceil (length own) 2

    abbrev each : ℕ
    each = div_ceil (length others) (length part.own)

    -- the own elements are one more than those on both sides
    length-own : length own + 1 ≡ length part.own
    length-own = ap (λ n. n + 1) (length-ordered axis rest) ∙ length-parted key root part.own distinct (root-in part.own root found)

    -- so many for each are enough, and no more than the bound
    enough-each : (length others ≤ each * length part.own) × (each ≤ p)
    enough-each = each-bounds (length others) (length part.own) p (omega (arith, length-own)) (rw (length-ordered axis part.others) few)

    -- what goes to both sides
    sides-bounds : (min (each * half) (length others) ≤ p * half) × (length others - each * half - each ≤ p * (length own - half))
    sides-bounds =
        let own_is : half + (length own - half) + 1 ≡ length part.own = omega (arith, length-own, (half-bounds (length own)).0) in
        part-bounds half (length own - half) each (length others) p enough-each.1 (rw own_is enough-each.0)

    -- the own elements are the root and those on both sides
    own-parted : (k : ℕ) → count k (keys part.own) ≡ here (key root) k + count k (keys the_fork.left.own) + count k (keys the_fork.right.own)
    own-parted k =
        let at_root = count_of-parted key root part.own distinct (root-in part.own root found) k in
        let sides = sum_by-take-drop (λ t. here (key t) k) own half in
        omega (arith, count-map key k part.own, count-map key k (take half own), count-map key k (drop half own), count-ordered axis rest k)

    -- the others are those on both sides and the leaves
    others-parted : (k : ℕ) → count k (keys part.others)
        ≡ count k (keys the_fork.left.others) + count k (keys the_fork.leaves) + count k (keys the_fork.right.others)
    others-parted k =
        let first = sum_by-take-drop (λ t. here (key t) k) others (each * half) in
        let next = sum_by-take-drop (λ t. here (key t) k) (drop (each * half) others) each in
        omega (
          arith,
          count-map key k part.others,
          count-map key k (take (each * half) others),
          count-map key k (take each (drop (each * half) others)),
          count-map key k (drop each (drop (each * half) others)),
          count-ordered axis part.others k,
        )

    -- both sides are roomy
    IsRoomy-left : (depth : ℕ) → length part.own ≤ suc depth → IsRoomy p depth the_fork.left
    IsRoomy-left depth shallow = record {
      shallow = omega (arith, length-own, length-take half own, (half-bounds (length own)).0);
      distinct = λ k. omega (arith, distinct k, own-parted k, count-map key k part.own, count-map key k (take half own));
      few =
          let half_own : length (take half own) ≡ half = omega (arith, length-take half own, (half-bounds (length own)).0) in
          omega (arith, ap (λ n. p * n) half_own, length-take (each * half) others, sides-bounds.0);
    }

    IsRoomy-right : (depth : ℕ) → length part.own ≤ suc depth → IsRoomy p depth the_fork.right
    IsRoomy-right depth shallow = record {
      shallow = omega (arith, length-own, length-drop half own);
      distinct = λ k. omega (arith, distinct k, own-parted k, count-map key k part.own, count-map key k (drop half own));
      few = omega (
        arith,
        ap (λ n. p * n) (length-drop half own),
        length-drop (each * half) others,
        length-drop each (drop (each * half) others),
        sides-bounds.1,
      );
    }

    -- and the leaves few
    few-leaves : length the_fork.leaves ≤ p
    few-leaves = omega (arith, length-take each (drop (each * half) others), enough-each.1)

  -- the edges of a fork are those to its leaves and what hangs on both sides
  edges-sum : (f : Edge → ℕ) (depth : ℕ) (fork : Fork T)
      → sum_by f (edges_from key point (edges_down key point depth) (Some fork))
      ≡ sum_by f (leaf_edges (key fork.root) (keys fork.leaves)) + sum_by f (hung (key fork.root) depth fork.left)
      + sum_by f (hung (key fork.root) depth fork.right)
  edges-sum f depth fork =
      rw (leaf_edges-keys (key fork.root) fork.leaves)
      (sum-of_five f (λ child. from_to (key fork.root) (key child)) (option_to_list (root_of key point fork.left.own))
      (option_to_list (root_of key point fork.right.own)) fork.leaves (edges_down key point depth fork.left) (edges_down key point depth fork.right))

  edges-contained : (depth : ℕ) (fork : Fork T) (e : Edge)
      → Contains (leaf_edges (key fork.root) (keys fork.leaves)) e
      ⊎ (Contains (hung (key fork.root) depth fork.left) e ⊎ Contains (hung (key fork.root) depth fork.right) e)
      → Contains (edges_from key point (edges_down key point depth) (Some fork)) e
  edges-contained depth fork e has =
      Contains-of_five (λ child. from_to (key fork.root) (key child)) (option_to_list (root_of key point fork.left.own))
      (option_to_list (root_of key point fork.right.own)) fork.leaves (edges_down key point depth fork.left) (edges_down key point depth fork.right) e
      (rw leaf_edges-keys at has)

  -- so the tree of a roomy part is one
  pub IsShape-part : (p depth : ℕ) (part : Part T) (root : T) → IsRoomy p depth part → root_of key point part.own ≡ Some root
      → IsShape p (key root) (edges_down key point depth part) (keys part.own) (keys part.others)
  IsShape-part p zero part root roomy found =
      absurd (omega (arith, roomy.shallow, (root-in part.own root found).1))
  IsShape-part p (suc depth) part root roomy found =
      let f = fork_at key point part root in
      let forked : fork key point part ≡ Some f = ap (option_map (fork_at key point part)) found in
      let edges = edges_from key point (edges_down key point depth) (Some f) in
      let left = IsHung-part p (key root) depth f.left (IsRoomy-left p part root roomy.distinct roomy.few found depth roomy.shallow)
      (λ below below_found. IsShape-part p depth f.left below (IsRoomy-left p part root roomy.distinct roomy.few found depth roomy.shallow) below_found) in
      let right = IsHung-part p (key root) depth f.right (IsRoomy-right p part root roomy.distinct roomy.few found depth roomy.shallow)
      (λ below below_found. IsShape-part p depth f.right below (IsRoomy-right p part root roomy.distinct roomy.few found depth roomy.shallow) below_found) in
      let whole = IsShape-node p (key root) (keys f.leaves) (hung (key root) depth f.left) (hung (key root) depth f.right)
      (keys f.left.own) (keys f.left.others) (keys f.right.own) (keys f.right.others)
      (rw (length-map f.leaves key) (few-leaves p part root roomy.distinct roomy.few found)) left right
      edges (keys part.own) (keys part.others)
      (λ k. edges-sum (λ e. cond (e.parent == k) 1 0) depth f) (λ k. edges-sum (λ e. cond (e.child == k) 1 0) depth f)
      (edges-contained depth f)
      (own-parted p part root roomy.distinct roomy.few found) (others-parted p part root roomy.distinct roomy.few found) in
      subst (λ (o : Option (Fork T)). IsShape p (key root) (edges_from key point (edges_down key point depth) o) (keys part.own) (keys part.others))
      (sym forked) whole
