-- How trees grow: a root with some leaves and up to two trees below it.
use Rattle.std.proofs.Common.{◌≡◌, ℕ, ◌+◌, ◌*◌, ◌<◌, ◌≤◌, ◌==◌, cond, List, [], ◌∷◌, length, map, Contains}
use Rattle.std.proofs.Common.{refl, sym, ap, ◌∙◌, inl, inr, ◌⊎◌, arith}
use Rattle.std.specs.List.{count_by}
use Rattle.std.proofs.lemmas.List.Sums.{sum_by-cons}
use Rattle.std.proofs.Math.Nat.{mul-le-mul_right}
use Rattle.std.proofs.lemmas.Bool.{cases_eq, ne_eqb, cases_lt}
use Rattle.cs_tree.proofs.Counts.{count, here, Contains-first, Contains-rest}
use Rattle.cs_tree.specs.Good.{IsPath, IsReached}
use Rattle.cs_tree.specs.Tree.{Edge}

-- an edge
abbrev pub from_to : ℕ → ℕ → Edge
from_to parent child = record { parent = parent; child = child }

-- how many edges lead to a key
abbrev pub parents : ℕ → List Edge → ℕ
parents k edges = count_by (λ (e : Edge). e.child == k) edges

-- how many lead from it
abbrev pub kids : ℕ → List Edge → ℕ
kids k edges = count_by (λ (e : Edge). e.parent == k) edges

-- a path by some edges is one by more
pub IsPath-more : (edges more : List Edge) → ((e : Edge) → Contains edges e → Contains more e)
    → (from : ℕ) (path : List ℕ) (to : ℕ) → IsPath edges from path to → IsPath more from path to
IsPath-more edges more keeps from [] to is = is
IsPath-more edges more keeps from (next ∷ path) to is = (keeps (from_to from next) is.0, IsPath-more edges more keeps next path to is.1)

pub IsReached-more : (edges more : List Edge) → ((e : Edge) → Contains edges e → Contains more e)
    → (from to : ℕ) → IsReached edges from to → IsReached more from to
IsReached-more edges more keeps from to r = (r.0, IsPath-more edges more keeps from r.0 to r.1)

-- some leaves below a root
abbrev pub leaf_edges : ℕ → List ℕ → List Edge
leaf_edges root leaves = map (from_to root) leaves

-- each leaf has one edge
pub parents-leaves : (k root : ℕ) (leaves : List ℕ) → parents k (leaf_edges root leaves) ≡ count k leaves
parents-leaves k root [] = refl
parents-leaves k root (leaf ∷ leaves) =
    sum_by-cons _ (from_to root leaf) (leaf_edges root leaves) ∙ (ap (λ n. here leaf k + n) (parents-leaves k root leaves) ∙ sym (sum_by-cons _ leaf leaves))

-- and all edges lead from the root
pub kids-leaves : (k root : ℕ) (leaves : List ℕ) → kids k (leaf_edges root leaves) ≡ length leaves * here root k
kids-leaves k root [] = omega arith
kids-leaves k root (leaf ∷ leaves) =
    let more = sum_by-cons (λ (e : Edge). cond (e.parent == k) 1 0) (from_to root leaf) (leaf_edges root leaves) in
    omega (arith, more, kids-leaves k root leaves)

-- the edge to a leaf is there
pub Contains-leaf : (k root : ℕ) (leaves : List ℕ) → 0 < count k leaves → Contains (leaf_edges root leaves) (from_to root k)
Contains-leaf k root [] some = absurd (omega arith)
Contains-leaf k root (leaf ∷ leaves) some = elim (cases_eq leaf k) [
  | inl same ↦ rw (← same) (Contains-first (from_to root leaf) (leaf_edges root leaves))
  | inr other ↦
      let more = sum_by-cons (λ n. cond (n == k) 1 0) leaf leaves in
      let not_here : here leaf k ≡ 0 = rw (ne_eqb leaf k other) refl in
      Contains-rest (from_to root leaf) (leaf_edges root leaves) (from_to root k) (Contains-leaf k root leaves (omega (arith, more, not_here)))
]

-- a tree that has its inner keys and the others: each key stands in it once, few are the children of inner keys, and
-- others have none
pub record IsShape (p root : ℕ) (edges : List Edge) (inner others : List ℕ) : Type 0 where
  pub placed : (k : ℕ) → here root k + parents k edges ≡ count k inner + count k others
  pub few : (k : ℕ) → kids k edges ≤ (p + 2) * count k inner
  pub reached : (k : ℕ) → 0 < count k inner + count k others → IsReached edges root k

-- the same of what hangs below a root, if it has keys, with the edge to its own root
pub record IsHung (p root : ℕ) (edges : List Edge) (inner others : List ℕ) : Type 0 where
  pub placed : (k : ℕ) → parents k edges ≡ count k inner + count k others
  pub few : (k : ℕ) → kids k edges ≤ here root k + (p + 2) * count k inner
  pub reached : (k : ℕ) → 0 < count k inner + count k others → IsReached edges root k

-- nothing hangs there
pub IsHung-none : (p root : ℕ) → IsHung p root [] [] []
IsHung-none p root = record { placed = λ k. refl; few = λ k. omega arith; reached = λ k some. absurd (omega arith) }

-- a tree hangs there
pub IsHung-tree : (p root below : ℕ) (edges : List Edge) (inner others : List ℕ) → IsShape p below edges inner others
    → IsHung p root ((from_to root below) ∷ edges) inner others
IsHung-tree p root below edges inner others shape = record {
  placed = λ k. sum_by-cons (λ (e : Edge). cond (e.child == k) 1 0) (from_to root below) edges ∙ shape.placed k;
  few = λ k. (let more = sum_by-cons (λ (e : Edge). cond (e.parent == k) 1 0) (from_to root below) edges in omega (arith, more, shape.few k));
  reached = λ k some. (
      let path = IsReached-more edges ((from_to root below) ∷ edges) (Contains-rest (from_to root below) edges) below k (shape.reached k some) in
      (below ∷ path.0, (Contains-first (from_to root below) edges, path.1))
      );
}

-- how many children a key has: the leaves and the two below for the root, and for others those in their own part
few-numbers : (p leaves root_here left right on_left on_right inner all : ℕ) → leaves ≤ p
    → all ≡ leaves * root_here + left + right → left ≤ root_here + (p + 2) * on_left → right ≤ root_here + (p + 2) * on_right
    → inner ≡ root_here + on_left + on_right → all ≤ (p + 2) * inner
few-numbers p leaves root_here left right on_left on_right inner all short all_is left_few right_few inner_is =
    let most : leaves * root_here ≤ p * root_here = mul-le-mul_right root_here short in
    rw inner_is (omega arith)

-- a root with leaves and with what hangs below it on the left and on the right is a tree
pub IsShape-node : (p root : ℕ) (leaves : List ℕ) (left right : List Edge) (left_inner left_others right_inner right_others : List ℕ)
    → length leaves ≤ p → IsHung p root left left_inner left_others → IsHung p root right right_inner right_others
    → (edges : List Edge) (inner others : List ℕ)
    → ((k : ℕ) → kids k edges ≡ kids k (leaf_edges root leaves) + kids k left + kids k right)
    → ((k : ℕ) → parents k edges ≡ parents k (leaf_edges root leaves) + parents k left + parents k right)
    → ((e : Edge) → Contains (leaf_edges root leaves) e ⊎ (Contains left e ⊎ Contains right e) → Contains edges e)
    → ((k : ℕ) → count k inner ≡ here root k + count k left_inner + count k right_inner)
    → ((k : ℕ) → count k others ≡ count k left_others + count k leaves + count k right_others)
    → IsShape p root edges inner others
IsShape-node p root leaves left right left_inner left_others right_inner right_others short on_left on_right edges inner others
    all_kids all_parents all_edges all_inner all_others = record {
      placed = λ k. omega (arith, all_parents k, parents-leaves k root leaves, on_left.placed k, on_right.placed k, all_inner k, all_others k);
      few = λ k. few-numbers p (length leaves) (here root k) (kids k left) (kids k right) (count k left_inner) (count k right_inner)
          (count k inner) (kids k edges) short (rw (← (kids-leaves k root leaves)) (all_kids k)) (on_left.few k) (on_right.few k) (all_inner k);
      reached = λ k some. reached_at k some;
    }
  where
    on_way : (way : List Edge) → ((e : Edge) → Contains way e → Contains edges e) → (k : ℕ) → IsReached way root k → IsReached edges root k
    on_way way keeps k r = IsReached-more way edges keeps root k r

    reached_at : (k : ℕ) → 0 < count k inner + count k others → IsReached edges root k
    reached_at k some = elim (cases_eq root k) [
      | inl same ↦ ([], same)
      | inr other ↦
          let not_here : here root k ≡ 0 = rw (ne_eqb root k other) refl in
          elim (cases_lt 0 (count k left_inner + count k left_others)) [
            | inl on_left_some ↦ on_way left (λ e has. all_edges e (inr (inl has))) k (on_left.reached k on_left_some)
            | inr on_left_none ↦ elim (cases_lt 0 (count k leaves)) [
              | inl leaf ↦ (k ∷ [], (all_edges (from_to root k) (inl (Contains-leaf k root leaves leaf)), refl))
              | inr no_leaf ↦ on_way right (λ e has. all_edges e (inr (inr has))) k
                  (on_right.reached k (omega (arith, all_inner k, all_others k)))
            ]
          ]
    ]
