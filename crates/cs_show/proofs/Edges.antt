-- The edges of a tree, parent by parent.
use Rattle.std.proofs.Common.{◌≡◌, ℕ, zero, suc, ◌<◌, ◌≤◌, ◌==◌, true, false, cond, List, [], ◌∷◌, ◌++◌, map, length, get_or, Option, Some, None, refl, ap}
use Rattle.std.proofs.Common.{subst, ◌∙◌, arith}
use Rattle.std.proofs.Common.{All, Contains, ◌⊎◌, inl, inr, ⊎_elim, append_assoc}
use Rattle.std.specs.List.{AllByRecursion, flat_map}
use Rattle.std.specs.Option.{option_map}
use Rattle.std.specs.Ordering.{is_lt}
use Rattle.std.proofs.lemmas.Bool.Decides.{nat_tests}
use Rattle.std.proofs.lemmas.List.Elements.{recursion_from_All}
use Rattle.cs_base.specs.Ascending.{IsAscendingBy}
use Rattle.cs_base.proofs.Elements.{All-weaker, Pairwise}
use Rattle.cs_tree.specs.Order.{inserted_by, sorted_by}
use Rattle.cs_tree.specs.Good.{IsTreeOver}
use Rattle.cs_tree.specs.Skeleton.{Part, edges_down, root_of, skeleton, tree_of}
use Rattle.cs_tree.specs.Tree.{RootedTree, edge_cmp}
use Rattle.cs_base.specs.Axes.{Axes}
use Rattle.cs_tree.specs.declared.edge.Edge.{Edge}
use Rattle.cs_show.specs.Block.{edge_text, edges_text}

-- the parent of the one isn't above that of the other
abbrev IsBelow : Edge → Edge → Type 0
IsBelow d e = d.parent ≤ e.parent

-- of two edges the lower one has no higher parent
below-lower : (d e : Edge) → is_lt (edge_cmp d e) ≡ true → IsBelow d e
below-lower d e lower = grind (arith, nat_tests)

-- and of the one that isn't lower the other has no higher parent
below-other : (d e : Edge) → is_lt (edge_cmp d e) ≡ false → IsBelow e d
below-other d e other = grind (arith, nat_tests)

-- what holds of an edge and of others holds of all of them
All-inserted : (P : Edge → Type 0) (e : Edge) (es : List Edge) → P e → AllByRecursion P es → AllByRecursion P (inserted_by edge_cmp e es)
All-inserted P e [] one all = (one, tt)
All-inserted P e (d ∷ ds) one all =
    elim (is_lt (edge_cmp d e)) as (λ b. AllByRecursion P (cond b (d ∷ inserted_by edge_cmp e ds) (e ∷ d ∷ ds))) [
      | true ↦ (all.0, All-inserted P e ds one all.1)
      | false ↦ (one, all)
    ]

-- edges in order by parent stay so with one edge more
Pairwise-inserted : (e : Edge) (es : List Edge) → Pairwise IsBelow es → Pairwise IsBelow (inserted_by edge_cmp e es)
Pairwise-inserted e [] pairs = (tt, tt)
Pairwise-inserted e (d ∷ ds) pairs =
    (elim (is_lt (edge_cmp d e)) as (λ b. is_lt (edge_cmp d e) ≡ b → Pairwise IsBelow (cond b (d ∷ inserted_by edge_cmp e ds) (e ∷ d ∷ ds))) [
      | true ↦ λ is. (All-inserted (IsBelow d) e ds (below-lower d e is) pairs.0, Pairwise-inserted e ds pairs.1)
      | false ↦ λ is.
          let below : IsBelow e d = below-other d e is in
          ((below, All-weaker (IsBelow d) (IsBelow e) (λ c above. omega arith) ds pairs.0), pairs)
    ]) refl

-- edges in ascending order are in order by parent
Pairwise-sorted : (es : List Edge) → Pairwise IsBelow (sorted_by edge_cmp es)
Pairwise-sorted [] = tt
Pairwise-sorted (e ∷ es) = Pairwise-inserted e (sorted_by edge_cmp es) (Pairwise-sorted es)

-- what each tree of such keeps
Pairwise-mapped : {T : Type 0} (f : T → RootedTree) → ((x : T) → Pairwise IsBelow (f x).edges) → (x : Option T) (tree : RootedTree)
    → option_map f x ≡ Some tree → Pairwise IsBelow tree.edges
Pairwise-mapped f each None tree is = absurd (let no = is in cc)
Pairwise-mapped f each (Some x) tree is = let same : f x ≡ tree = cc in subst (λ (t : RootedTree). Pairwise IsBelow t.edges) same (each x)

-- the edges of a tree are in order by parent
pub Pairwise-tree : {T : Type 0} (key : T → ℕ) (point : T → Axes) (part : Part T) (tree : RootedTree)
    → tree_of key point part ≡ Some tree → Pairwise IsBelow tree.edges
Pairwise-tree {T} key point part tree is =
    Pairwise-mapped (λ (root : T). record {
      root = key root;
      edges = sorted_by edge_cmp (edges_down key point (length part.own) part);
    }) (λ root. Pairwise-sorted (edges_down key point (length part.own) part)) (root_of key point part.own) tree is

-- and so are those of a skeleton
pub Pairwise-skeleton : {T : Type 0} (ts : List T) (key : T → ℕ) (point : T → Axes) (tree : RootedTree)
    → skeleton key point ts ≡ Some tree → Pairwise IsBelow tree.edges
Pairwise-skeleton ts key point tree is = Pairwise-tree key point (record { own = ts; others = [] }) tree is

-- the text of an edge
abbrev pub text : Edge → List ℕ
text e = edge_text e.parent e.child

-- one edge more of another parent
edges-other : (e : Edge) (es : List Edge) (parent : ℕ) → (e.parent == parent) ≡ false → edges_text (e ∷ es) parent ≡ edges_text es parent
edges-other e es parent other = rw other refl

-- one edge more of this parent
edges-this : (e : Edge) (es : List Edge) (parent : ℕ) → parent ≡ e.parent → edges_text (e ∷ es) parent ≡ text e ++ edges_text es parent
edges-this e es parent is =
    let same : (e.parent == parent) ≡ true = grind (arith, nat_tests) in
    rw same (ap (λ p. edge_text p e.child ++ edges_text es parent) is)

-- no edge has this parent
edges-none : (es : List Edge) (parent : ℕ) → AllByRecursion (λ (e : Edge). parent < e.parent) es → edges_text es parent ≡ []
edges-none [] parent above = refl
edges-none (e ∷ es) parent above =
    let other : (e.parent == parent) ≡ false = grind (arith, nat_tests, above.0) in
    edges-other e es parent other ∙ edges-none es parent above.1

module _ {T : Type 0} (key : T → ℕ) where
  -- the edges from the keys of a list, one key after another
  abbrev pub all_edges : List Edge → List T → List ℕ
  all_edges es xs = flat_map (λ x. edges_text es (key x)) xs

  -- some element has the key
  abbrev pub HasKey : ℕ → List T → Type 0
  HasKey k [] = ⊥
  HasKey k (x ∷ xs) = (key x ≡ k) ⊎ HasKey k xs

  -- there are no edges
  none_at_all : (xs : List T) → all_edges [] xs ≡ []
  none_at_all [] = refl
  none_at_all (x ∷ xs) = none_at_all xs

  -- one edge more, where all keys are above its parent
  more_above : (e : Edge) (es : List Edge) (xs : List T) → AllByRecursion (λ x. e.parent < key x) xs → all_edges (e ∷ es) xs ≡ all_edges es xs
  more_above e es [] above = refl
  more_above e es (x ∷ xs) above =
      let other : (e.parent == key x) ≡ false = grind (arith, nat_tests, above.0) in
      rw (edges-other e es (key x) other) (ap (λ more. edges_text es (key x) ++ more) (more_above e es xs above.1))

  -- a key that some element has is above what is below all keys
  has_above : (low k : ℕ) (xs : List T) → AllByRecursion (λ x. low < key x) xs → HasKey k xs → low < k
  has_above low k [] above has = absurd has
  has_above low k (x ∷ xs) above has =
      ⊎_elim (λ is. omega (arith, above.0)) (λ later. has_above low k xs above.1 later) has

  -- one edge more, at the key of its parent
  first_here : (e : Edge) (es : List Edge) (x : T) (xs : List T) → IsAscendingBy key (x ∷ xs) → key x ≡ e.parent
      → all_edges (e ∷ es) (x ∷ xs) ≡ text e ++ all_edges es (x ∷ xs)
  first_here e es x xs ascending is =
      let above : AllByRecursion (λ y. e.parent < key y) xs = rw is at ascending.0 in
      ap (λ front. front ++ all_edges (e ∷ es) xs) (edges-this e es (key x) is)
      ∙ (append_assoc (text e) (edges_text es (key x)) (all_edges (e ∷ es) xs)
      ∙ ap (λ more. text e ++ (edges_text es (key x) ++ more)) (more_above e es xs above))

  -- at a later key: the edges behind it have no lower parents, so there is none from the first key
  first_later : (e : Edge) (es : List Edge) (x : T) (xs : List T) → IsAscendingBy key (x ∷ xs) → AllByRecursion (IsBelow e) es
      → HasKey e.parent xs → all_edges (e ∷ es) xs ≡ text e ++ all_edges es xs → all_edges (e ∷ es) (x ∷ xs) ≡ text e ++ all_edges es (x ∷ xs)
  first_later e es x xs ascending below later is =
      let low = has_above (key x) e.parent xs ascending.0 later in
      let other : (e.parent == key x) ≡ false = grind (arith, nat_tests) in
      let none = edges-none es (key x) (All-weaker (IsBelow e) (λ (d : Edge). key x < d.parent) (λ d above. omega (arith, low)) es below) in
      rw (edges-other e es (key x) other, none) is

  -- one edge more, which is the first of all
  more_first : (e : Edge) (es : List Edge) (xs : List T) → IsAscendingBy key xs → HasKey e.parent xs
      → AllByRecursion (IsBelow e) es → all_edges (e ∷ es) xs ≡ text e ++ all_edges es xs
  more_first e es [] ascending has below = absurd has
  more_first e es (x ∷ xs) ascending has below =
      ⊎_elim (λ is. first_here e es x xs ascending is)
      (λ later. first_later e es x xs ascending below later (more_first e es xs ascending.1 later below)) has

  -- the edges from ascending keys, among which are all parents, are all edges in their order
  pub edges_by_key : (es : List Edge) (xs : List T) → IsAscendingBy key xs → Pairwise IsBelow es
      → AllByRecursion (λ (e : Edge). HasKey e.parent xs) es → all_edges es xs ≡ flat_map text es
  edges_by_key [] xs ascending pairs has = none_at_all xs
  edges_by_key (e ∷ es) xs ascending pairs has =
      more_first e es xs ascending has.0 pairs.0
      ∙ ap (λ more. text e ++ more) (edges_by_key es xs ascending pairs.1 has.1)

  -- the key at a place is one that some element has
  has_at : (k : ℕ) (xs : List T) (i : ℕ) → i < length (map key xs) → get_or (map key xs) i k ≡ k → HasKey k xs
  has_at k [] i below is = absurd (omega arith)
  has_at k (x ∷ xs) zero below is = inl is
  has_at k (x ∷ xs) (suc i) below is = inr (has_at k xs i (omega arith) is)

  -- the parents are among the keys
  pub has_parents : (es : List Edge) (xs : List T) → All (λ (e : Edge). Contains (map key xs) e.parent × Contains (map key xs) e.child) es
      → AllByRecursion (λ (e : Edge). HasKey e.parent xs) es
  has_parents es xs within =
      let has : (e : Edge) → Contains (map key xs) e.parent × Contains (map key xs) e.child → HasKey e.parent xs =
      λ e both. has_at e.parent xs both.0.0 both.0.1 both.0.2 in
      All-weaker (λ (e : Edge). Contains (map key xs) e.parent × Contains (map key xs) e.child) (λ (e : Edge). HasKey e.parent xs) has es
      (recursion_from_All (λ (e : Edge). Contains (map key xs) e.parent × Contains (map key xs) e.child) es within)

  -- the edges of a good tree over ascending keys, one key after another
  pub edges_of_tree : (most : ℕ) (tree : RootedTree) (xs : List T) → IsAscendingBy key xs → Pairwise IsBelow tree.edges
      → IsTreeOver most (map key xs) tree → all_edges tree.edges xs ≡ flat_map text tree.edges
  edges_of_tree most tree xs ascending pairs good = edges_by_key tree.edges xs ascending pairs (has_parents tree.edges xs good.within)
