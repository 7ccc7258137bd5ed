-- Edges in order: where those from a parent stand, and when one leads to a key.
use Rattle.std.proofs.Common.{◌≡◌, ◌≢◌, ℕ, zero, suc, ◌+◌, ◌-◌, ◌<◌, ◌≤◌, ◌==◌, ◌↔◌, not, Bool, true, false}
use Rattle.std.proofs.Common.{List, [], ◌∷◌, length, get_or, map, take, drop, IsNone}
use Rattle.std.proofs.Common.{refl, sym, ap, ◌∙◌, arith, rules, IsSorted, slice_range, ltb, leb, inl, inr}
use Rattle.std.specs.List.{All, AllByRecursion, filter}
use Rattle.std.specs.List.Sorted.{IsNonDecreasing, IsNonDecreasingBy, IsPartitionPoint}
use Rattle.std.specs.Ordering.{is_lt, nat_cmp, ordering_then}
use Rattle.std.proofs.lemmas.Bool.{cases_lt, eqb-true, eqb-false, ne_eqb}
use Rattle.std.proofs.lemmas.Bool.Decides.{nat_tests}
use Rattle.std.proofs.lemmas.List.{drop-map, take-map}
use Rattle.std.proofs.lemmas.List.Elements.{All-from_recursion, recursion_from_All}
use Rattle.std.proofs.lemmas.List.Sorted.{ranks_by, sorted_far}
use Rattle.cs_base.proofs.Ascending.{All-at}
use Rattle.cs_base.proofs.Elements.{Pairwise}
use Rattle.cs_tree.proofs.InOrder.{IsUp, IsUpTo, IsUp-from_sorted, edge_cmp_total}
use Rattle.cs_tree.specs.Tree.{Edge, children_of, edge_cmp, has_children, parent_of}

-- those that pass stand in a row, from one place on, so many
pub filter-row : {T : Type 0} (p : T → Bool) (ts : List T) (from n : ℕ) → from + n ≤ length ts
    → ((i : ℕ) (d : T) → i < from → p (get_or ts i d) ≡ false)
    → ((i : ℕ) (d : T) → from ≤ i → i < from + n → p (get_or ts i d) ≡ true)
    → ((i : ℕ) (d : T) → from + n ≤ i → i < length ts → p (get_or ts i d) ≡ false)
    → filter p ts ≡ take n (drop from ts)
filter-row p [] zero zero le before row behind = refl
filter-row p [] zero (suc n) le before row behind = absurd (omega arith)
filter-row p [] (suc from) n le before row behind = absurd (omega arith)
filter-row p (t ∷ ts) zero zero le before row behind =
    let no : p t ≡ false = behind 0 t (omega arith) (omega arith) in
    rw no (filter-row p ts 0 0 (omega arith) (λ i d lt. absurd (omega arith)) (λ i d ge lt. absurd (omega arith))
    (λ i d ge lt. behind (suc i) d (omega arith) (omega arith)))
filter-row p (t ∷ ts) zero (suc n) le before row behind =
    let yes : p t ≡ true = row 0 t (omega arith) (omega arith) in
    let rest = filter-row p ts 0 n (omega arith) (λ i d lt. absurd (omega arith)) (λ i d ge lt. row (suc i) d (omega arith) (omega arith))
    (λ i d ge lt. behind (suc i) d (omega arith) (omega arith)) in
    rw yes (ap (λ us. t ∷ us) rest)
filter-row p (t ∷ ts) (suc from) n le before row behind =
    let no : p t ≡ false = before 0 t (omega arith) in
    rw no (filter-row p ts from n (omega arith) (λ i d lt. before (suc i) d (omega arith)) (λ i d ge lt. row (suc i) d (omega arith) (omega arith))
    (λ i d ge lt. behind (suc i) d (omega arith) (omega arith)))

-- no edge leads to a key exactly where it has no parent
pub no-parent : (key : ℕ) (edges : List Edge) → IsNone (parent_of key edges) ↔ All (λ (e : Edge). e.child ≢ key) edges
no-parent key edges = (
  λ none. All-from_recursion (λ (e : Edge). e.child ≢ key) edges (down edges none),
  λ all. up edges (recursion_from_All (λ (e : Edge). e.child ≢ key) edges all),
)
  where
    down : (es : List Edge) → IsNone (parent_of key es) → AllByRecursion (λ (e : Edge). e.child ≢ key) es
    down [] none = tt
    down (e ∷ es) none = go (e.child == key) refl (down es)
      where
        go : (b : Bool) → (e.child == key) ≡ b → (IsNone (parent_of key es) → AllByRecursion (λ (f : Edge). f.child ≢ key) es)
            → AllByRecursion (λ (f : Edge). f.child ≢ key) (e ∷ es)
        go true is later = absurd (let there = rw is at none in cc)
        go false is later = (eqb-false e.child key is, later (rw is at none))

    up : (es : List Edge) → AllByRecursion (λ (e : Edge). e.child ≢ key) es → IsNone (parent_of key es)
    up [] all = search rules
    up (e ∷ es) all =
        let other : (e.child == key) ≡ false = ne_eqb e.child key all.0 in
        rw other (up es all.1)

-- what the order of two edges says of their parents, and of their children below one parent
pub parent-le : (a b c d : ℕ) → is_lt (ordering_then (nat_cmp b a) (nat_cmp d c)) ≡ false → a ≤ b
parent-le a b c d le = grind (arith, nat_tests)

child-le : (a b c d : ℕ) → a ≡ b → is_lt (ordering_then (nat_cmp b a) (nat_cmp d c)) ≡ false → c ≤ d
child-le a b c d same le = grind (arith, nat_tests)

-- edges in order don't fall in their parents
pub parents-rise : (edges : List Edge) → IsSorted edge_cmp edges → IsNonDecreasingBy (λ (e : Edge). e.parent) edges
parents-rise edges up i j d le lt =
    let far = sorted_far (λ (x y : Edge). is_lt (edge_cmp x y)) (ranks_by edge_cmp_total (λ (e : Edge). e)) edges up i j d le lt in
    parent-le (get_or edges i d).parent (get_or edges j d).parent (get_or edges i d).child (get_or edges j d).child far

-- the edges from a parent stand between the places that two binary searches give
pub parents-row : (edges : List Edge) (key from to : ℕ) → from ≤ length edges → to ≤ length edges
    → IsPartitionPoint (λ (e : Edge). ltb e.parent key ≡ true) (λ (e : Edge). ltb e.parent key ≡ false) edges from
    → IsPartitionPoint (λ (e : Edge). leb e.parent key ≡ true) (λ (e : Edge). leb e.parent key ≡ false) edges to
    → (from ≤ to) × (filter (λ (e : Edge). e.parent == key) edges ≡ slice_range edges from to)
parents-row edges key from to within within' first last = (order, row)
  where
    d : Edge
    d = record { parent = 0; child = 0 }

    order : from ≤ to
    order = elim (cases_lt to from) [
      | inl later ↦ absurd (
          let below = first.0 to d (omega arith) later in
          let above = last.1 to d (omega arith) (omega arith) in
          grind (arith, nat_tests))
      | inr le ↦ le
    ]

    row : filter (λ (e : Edge). e.parent == key) edges ≡ slice_range edges from to
    row = filter-row (λ (e : Edge). e.parent == key) edges from (to - from) (omega (arith, order))
        (λ i e lt. (let below = first.0 i e (omega arith) lt in grind (arith, nat_tests)))
        (λ i e ge lt. (let above = first.1 i e ge (omega (arith, order)) in
        let upto = last.0 i e (omega arith) (omega (arith, order)) in grind (arith, nat_tests)))
        (λ i e ge lt. (let above = last.1 i e (omega (arith, order)) lt in grind (arith, nat_tests)))

-- so the children of a key stand in a row too
pub children-row : (edges : List Edge) (children : List ℕ) (key from to : ℕ) → children ≡ map (λ (e : Edge). e.child) edges
    → filter (λ (e : Edge). e.parent == key) edges ≡ slice_range edges from to → slice_range children from to ≡ children_of key edges
children-row edges children key from to are row =
    let child : Edge → ℕ = λ e. e.child in
    ap (λ ns. slice_range ns from to) are
    ∙ (ap (take (to - from)) (drop-map child from edges) ∙ (take-map child (to - from) (drop from edges) ∙ ap (map child) (sym row)))

-- a key has children exactly where there is an edge from it
pub some-children : (key : ℕ) (edges : List Edge) → not (length (children_of key edges) == 0) ≡ has_children key edges
some-children key [] = refl
some-children key (e ∷ es) = go (e.parent == key) refl (some-children key es)
  where
    go : (b : Bool) → (e.parent == key) ≡ b → not (length (children_of key es) == 0) ≡ has_children key es
        → not (length (children_of key (e ∷ es)) == 0) ≡ has_children key (e ∷ es)
    go true is later =
        let some : (length (e.child ∷ children_of key es) == 0) ≡ false = ne_eqb (length (e.child ∷ children_of key es)) 0 (λ none. omega arith) in
        rw is (ap not some)
    go false is later = rw is later

-- they ascend where the edges do
children-up : (key : ℕ) (edges : List Edge) → IsUp edge_cmp_total edges → Pairwise ◌≤◌ (children_of key edges)
children-up key [] up = tt
children-up key (e ∷ es) up = go (e.parent == key) refl (children-up key es up.1)
  where
    above : e.parent ≡ key → (fs : List Edge) → AllByRecursion (IsUpTo edge_cmp_total e) fs → AllByRecursion (λ n. e.child ≤ n) (children_of key fs)
    above has [] all = tt
    above has (f ∷ fs) all = further (f.parent == key) refl (above has fs all.1)
      where
        further : (b : Bool) → (f.parent == key) ≡ b → AllByRecursion (λ n. e.child ≤ n) (children_of key fs)
            → AllByRecursion (λ n. e.child ≤ n) (children_of key (f ∷ fs))
        further true is later = rw is (child-le e.parent f.parent e.child f.child (has ∙ sym (eqb-true f.parent key is)) all.0, later)
        further false is later = rw is later

    go : (b : Bool) → (e.parent == key) ≡ b → Pairwise ◌≤◌ (children_of key es) → Pairwise ◌≤◌ (children_of key (e ∷ es))
    go true is later = rw is (above (eqb-true e.parent key is) es up.0, later)
    go false is later = rw is later

numbers-rise : (ns : List ℕ) → Pairwise ◌≤◌ ns → IsNonDecreasing ns
numbers-rise [] up i j d le lt = absurd (omega arith)
numbers-rise (n ∷ ns) up zero zero d le lt = omega arith
numbers-rise (n ∷ ns) up zero (suc j) d le lt = All-at (λ m. n ≤ m) ns up.0 j d (omega arith)
numbers-rise (n ∷ ns) up (suc i) zero d le lt = absurd (omega arith)
numbers-rise (n ∷ ns) up (suc i) (suc j) d le lt = numbers-rise ns up.1 i j d (omega arith) (omega arith)

pub children-rise : (key : ℕ) (edges : List Edge) → IsSorted edge_cmp edges → IsNonDecreasing (children_of key edges)
children-rise key edges up = numbers-rise (children_of key edges) (children-up key edges (IsUp-from_sorted edge_cmp_total edges up))
