-- A list in order is the only one of its elements, so each sort gives the same.
use Rattle.std.proofs.Common.{◌≡◌, ℕ, suc, ◌+◌, Bool, true, false, List, [], ◌∷◌, Contains, ℤ}
use Rattle.std.proofs.Common.{refl, sym, ap, ◌∙◌, if◌then◌else◌, arith, IsPermutation, IsSorted}
use Rattle.std.specs.declared.cmp.Ordering.{Ordering}
use Rattle.std.specs.declared.cmp.Ordering.TheVariants.{Less, Equal, Greater}
use Rattle.std.specs.Cmp.{IsTotalOrder, IsStrictWeakOrder}
use Rattle.std.specs.List.{AllByRecursion, sum_by}
use Rattle.std.specs.Ordering.{int_cmp, is_lt, nat_cmp, ordering_reverse, ordering_then}
use Rattle.std.proofs.lemmas.Cmp.{nat_cmp_total, int_cmp_total, on_total, then_total, ranked, tied_itself}
use Rattle.std.proofs.lemmas.List.Elements.{All-contains_itself, recursion_from_All}
use Rattle.std.proofs.lemmas.List.Sorted.{All-permutation, ranks_by, sorted_far, sum_by-IsPermutation}
use Rattle.std.proofs.lemmas.List.Sums.{sum_by-cons}
use Rattle.cs_base.proofs.Ascending.{All-from_places}
use Rattle.cs_base.proofs.Elements.{All-weaker, Pairwise}
use Rattle.cs_base.specs.Axes.{Axes}
use Rattle.cs_base.specs.Split.{pair_cmp}
use Rattle.cs_base.specs.declared.point.Axis.{Axis}
use Rattle.cs_near.specs.Middle.{IsInOrder, order_pair}
use Rattle.cs_tree.proofs.Sorting.{IsPermutation-sorted}
use Rattle.cs_tree.specs.Order.{inserted_by, sorted_by}
use Rattle.cs_tree.specs.Skeleton.{ordered_on}
use Rattle.cs_tree.specs.Tree.{Edge, edge_cmp}

-- a sum of nothing
sum_by-none : {T : Type 0} (f : T → ℕ) (ts : List T) → AllByRecursion (λ t. f t ≡ 0) ts → sum_by f ts ≡ 0
sum_by-none f [] none = refl
sum_by-none f (t ∷ ts) none = omega (arith, sum_by-cons f t ts, none.0, sum_by-none f ts none.1)

module _ {T : Type 0} {compare : T → T → Ordering} (order : IsTotalOrder compare) where
  weak : IsStrictWeakOrder (λ t u. is_lt (compare t u))
  weak = ranks_by order (λ (t : T). t)

  -- the second isn't below the first
  abbrev pub IsUpTo : T → T → Type 0
  IsUpTo t u = is_lt (compare u t) ≡ false

  -- no element is below one before it
  abbrev pub IsUp : List T → Type 0
  IsUp ts = Pairwise IsUpTo ts

  -- what holds of all elements and of one more
  All-inserted : (P : T → Type 0) (t : T) (ts : List T) → P t → AllByRecursion P ts → AllByRecursion P (inserted_by compare t ts)
  All-inserted P t [] holds all = (holds, tt)
  All-inserted P t (u ∷ us) holds all =
      elim (is_lt (compare u t)) as (λ b. AllByRecursion P (if b then u ∷ inserted_by compare t us else t ∷ u ∷ us)) [
        | true ↦ (all.0, All-inserted P t us holds all.1)
        | false ↦ (holds, all)
      ]

  -- a list with one more element is in order
  IsUp-inserted : (t : T) (ts : List T) → IsUp ts → IsUp (inserted_by compare t ts)
  IsUp-inserted t [] up = (tt, tt)
  IsUp-inserted t (u ∷ us) up = go (is_lt (compare u t)) refl (IsUp-inserted t us up.1)
    where
      go : (b : Bool) → is_lt (compare u t) ≡ b → IsUp (inserted_by compare t us) → IsUp (if b then u ∷ inserted_by compare t us else t ∷ u ∷ us)
      go true e later = (All-inserted (IsUpTo u) t us (weak.one_way u t e) up.0, later)
      go false e later = ((e, All-weaker (IsUpTo u) (IsUpTo t) (λ v le. weak.chain v u t le e) us up.0), up)

  IsUp-sorted : (ts : List T) → IsUp (sorted_by compare ts)
  IsUp-sorted [] = tt
  IsUp-sorted (t ∷ ts) = IsUp-inserted t (sorted_by compare ts) (IsUp-sorted ts)

  -- from what a sort ensures
  pub IsUp-from_sorted : (ts : List T) → IsSorted compare ts → IsUp ts
  IsUp-from_sorted [] up = tt
  IsUp-from_sorted (t ∷ ts) up = (
    All-from_places (IsUpTo t) ts
        (λ i d lt. sorted_far (λ u v. is_lt (compare u v)) weak (t ∷ ts) up 0 (suc i) d (omega arith) (omega arith)),
    IsUp-from_sorted ts (λ k d low lt. (
        let next : suc k + 1 ≡ suc (k + 1) = omega arith in
        let at = up (suc k) d (omega arith) (omega arith) in
        rw next at at
        )),
  )

  -- of two lists in order whose elements are counted alike, the first of one isn't below the first of the other
  first-least : (t : T) (ts : List T) (u : T) (us : List T) → IsUp (u ∷ us) → ((f : T → ℕ) → sum_by f (t ∷ ts) ≡ sum_by f (u ∷ us)) → IsUpTo u t
  first-least t ts u us up counts = go (is_lt (compare t u)) refl
    where
      f : T → ℕ
      f v = if is_lt (compare v u) then 1 else 0

      none : (v : T) → IsUpTo u v → f v ≡ 0
      none v le = rw le refl

      go : (b : Bool) → is_lt (compare t u) ≡ b → is_lt (compare t u) ≡ false
      go false e = e
      go true e =
          let first : f u ≡ 0 = none u (ap is_lt (tied_itself order u)) in
          let one : f t ≡ 1 = rw e refl in
          let all : sum_by f us ≡ 0 = sum_by-none f us (All-weaker (IsUpTo u) (λ v. f v ≡ 0) none us up.0) in
          absurd (omega (arith, counts f, sum_by-cons f t ts, sum_by-cons f u us))

  -- neither is below the other
  tie : (t u : T) → IsUpTo t u → IsUpTo u t → compare t u ≡ Equal
  tie t u up down = go (compare t u) refl
    where
      go : (o : Ordering) → compare t u ≡ o → compare t u ≡ Equal
      go Less e = absurd (let less : is_lt (compare t u) ≡ true = ap is_lt e in cc)
      go Equal e = e
      go Greater e = absurd (let less : is_lt (compare u t) ≡ true = ap is_lt (order.antisymm u t ∙ ap ordering_reverse e) in cc)

  -- two lists in order whose elements are counted alike are the same, where elements that tie are
  same-up : (P : T → Type 0) → ((t u : T) → P t → P u → compare t u ≡ Equal → t ≡ u) → (ts us : List T) → AllByRecursion P ts → AllByRecursion P us
      → IsUp ts → IsUp us → ((f : T → ℕ) → sum_by f ts ≡ sum_by f us) → ts ≡ us
  same-up P same [] [] all all' up up' counts = refl
  same-up P same [] (u ∷ us) all all' up up' counts = absurd (omega (arith, counts (λ _. 1), sum_by-cons (λ _. 1) u us))
  same-up P same (t ∷ ts) [] all all' up up' counts = absurd (omega (arith, counts (λ _. 1), sum_by-cons (λ _. 1) t ts))
  same-up P same (t ∷ ts) (u ∷ us) all all' up up' counts =
      let above = first-least t ts u us up' counts in
      let below = first-least u us t ts up (λ f. sym (counts f)) in
      let first : t ≡ u = same t u all.0 all'.0 (tie t u below above) in
      let rest : ts ≡ us = same-up P same ts us all.1 all'.1 up.1 up'.1
      (λ f. omega (arith, counts f, sum_by-cons f t ts, sum_by-cons f u us, ap f first)) in
      cc

  -- so what a sort gives is the list in order
  pub sorted-known : (ts ps : List T) → ((t u : T) → Contains ts t → Contains ts u → compare t u ≡ Equal → t ≡ u)
      → IsPermutation ts ps → IsSorted compare ps → ps ≡ sorted_by compare ts
  sorted-known ts ps same moved up =
      let all : (us : List T) → IsPermutation ts us → AllByRecursion (Contains ts) us =
      λ us kept. recursion_from_All (Contains ts) us (All-permutation (Contains ts) ts us kept (All-contains_itself ts)) in
      let kept = IsPermutation-sorted compare ts in
      same-up (Contains ts) same ps (sorted_by compare ts) (all ps moved) (all (sorted_by compare ts) kept) (IsUp-from_sorted ps up) (IsUp-sorted ts)
      (λ f. sum_by-IsPermutation f ts ps moved ∙ sym (sum_by-IsPermutation f ts (sorted_by compare ts) kept))

-- pairs are in a total order, and those that tie have one key
pair_cmp_total : IsTotalOrder pair_cmp
pair_cmp_total = then_total (on_total (λ (p : ℤ × ℕ). p.0) int_cmp_total) (on_total (λ (p : ℤ × ℕ). p.1) nat_cmp_total)

key-from_tie : (p q : ℤ × ℕ) → pair_cmp p q ≡ Equal → p.1 ≡ q.1
key-from_tie p q tied = go (int_cmp p.0 q.0) tied
  where
    go : (o : Ordering) → ordering_then o (nat_cmp p.1 q.1) ≡ Equal → p.1 ≡ q.1
    go Less e = cc
    go Equal e = ranked p.1 q.1 Equal (sym e)
    go Greater e = cc

-- elements with different keys have one order on an axis
pub ordered-known : {T : Type 0} (key : T → ℕ) (point : T → Axes) (axis : Axis) (ts ps : List T)
    → ((t u : T) → Contains ts t → Contains ts u → key t ≡ key u → t ≡ u) → IsInOrder key point axis ts ps → ps ≡ ordered_on key point axis ts
ordered-known key point axis ts ps distinct order =
    sorted-known (on_total (order_pair key point axis) pair_cmp_total) ts ps
    (λ t u has has' tied. distinct t u has has' (key-from_tie (order_pair key point axis t) (order_pair key point axis u) tied)) order.same order.up

-- edges are in a total order, and those that tie are the same
pub edge_cmp_total : IsTotalOrder edge_cmp
edge_cmp_total = then_total (on_total (λ (e : Edge). e.parent) nat_cmp_total) (on_total (λ (e : Edge). e.child) nat_cmp_total)

edge-from_tie : (d e : Edge) → edge_cmp d e ≡ Equal → d ≡ e
edge-from_tie d e tied = go (nat_cmp d.parent e.parent) refl tied
  where
    go : (o : Ordering) → nat_cmp d.parent e.parent ≡ o → ordering_then o (nat_cmp d.child e.child) ≡ Equal → d ≡ e
    go Less is tied = cc
    go Equal is tied =
        let parent : d.parent ≡ e.parent = ranked d.parent e.parent Equal (sym is) in
        let child : d.child ≡ e.child = ranked d.child e.child Equal (sym tied) in
        λ i. record { parent = parent i; child = child i }
    go Greater is tied = cc

pub edges-known : (es fs : List Edge) → IsPermutation es fs → IsSorted edge_cmp fs → fs ≡ sorted_by edge_cmp es
edges-known es fs moved up = sorted-known edge_cmp_total es fs (λ d e has has' tied. edge-from_tie d e tied) moved up
