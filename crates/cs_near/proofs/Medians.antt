-- The one at a place of the order is the only one with so many below it; what follows of the split at the middle.
use Rattle.std.proofs.Common.{◌≡◌, ◌≢◌, ℕ, zero, suc, ◌<◌, ◌≤◌, ◌==◌, Bool, true, false, List, [], ◌∷◌, length, get_or, Some, ℤ}
use Rattle.std.proofs.Common.{refl, ap, sym, ◌∙◌, if◌then◌else◌, arith, eq-eqb}
use Rattle.std.specs.declared.cmp.Ordering.{Ordering}
use Rattle.std.specs.declared.cmp.Ordering.TheVariants.{Less, Equal, Greater}
use Rattle.std.specs.Cmp.{IsTotalOrder}
use Rattle.std.specs.Int.{div_ceil}
use Rattle.std.specs.List.{AllByRecursion, Any, Contains, IsDistinct, filter}
use Rattle.std.specs.Option.{option_map}
use Rattle.std.specs.Ordering.{int_cmp, nat_cmp, ordering_then}
use Rattle.std.proofs.lemmas.Bool.{eqb-true}
use Rattle.std.proofs.lemmas.Bool.Decides.{nat_tests}
use Rattle.std.proofs.lemmas.Cmp.{nat_cmp_total, int_cmp_total, on_total, then_total, ranked}
use Rattle.std.proofs.lemmas.List.{get_or_default}
use Rattle.std.proofs.lemmas.List.Elements.{All-contains_itself, Contains-get_or, recursion_from_All}
use Rattle.std.proofs.lemmas.List.Filters.{length-filter_both}
use Rattle.std.proofs.lemmas.List.Sorted.{sum_by-IsPermutation, IsPermutation-sym, Contains-permutation}
use Rattle.std.proofs.lemmas.List.Sums.{length-filter}
use Rattle.std.proofs.lemmas.Map.Keys.{IsDistinct-IsPermutation}
use Rattle.cs_base.proofs.Ascending.{All-at}
use Rattle.cs_base.specs.Ascending.{IsDistinctBy}
use Rattle.cs_base.specs.Axes.{Axes}
use Rattle.cs_base.specs.Split.{pair_cmp, is_lower, is_upper, lower_part, upper_part}
use Rattle.cs_base.specs.declared.member.Member.{Member}
use Rattle.cs_base.specs.declared.point.Axis.{Axis}
use Rattle.cs_near.specs.Middle.{IsInOrder, is_below_on, middle_on, middle_split, order_pair, placed_on, split_at}
use Rattle.cs_near.specs.Widest.{widest_axis}
use Rattle.cs_near.proofs.Found.{find-first, find-holds}
use Rattle.cs_near.proofs.Ranks.{below-place}

-- pairs are in a total order
pair_cmp_total : IsTotalOrder pair_cmp
pair_cmp_total = then_total (on_total (λ (p : ℤ × ℕ). p.0) int_cmp_total) (on_total (λ (p : ℤ × ℕ). p.1) nat_cmp_total)

-- and those that tie have one key
key-from_tie : (p q : ℤ × ℕ) → pair_cmp p q ≡ Equal → p.1 ≡ q.1
key-from_tie p q tie = go (int_cmp p.0 q.0) tie
  where
    go : (o : Ordering) → ordering_then o (nat_cmp p.1 q.1) ≡ Equal → p.1 ≡ q.1
    go Less e = cc
    go Equal e = ranked p.1 q.1 Equal (sym e)
    go Greater e = cc

module _ {T : Type 0} (key : T → ℕ) where
  -- the keys of two elements are the same
  abbrev same_key : T → T → Bool
  same_key t u = key t == key u

  -- keys that differ, by tests
  IsDistinct-from_keys : (ts : List T) → IsDistinctBy key ts → IsDistinct same_key ts
  unfolding IsDistinct
  IsDistinct-from_keys [] distinct = tt
  IsDistinct-from_keys (t ∷ ts) distinct = (each ts distinct.0, IsDistinct-from_keys ts distinct.1)
    where
      each : (us : List T) → AllByRecursion (λ u. key t ≢ key u) us → AllByRecursion (λ u. same_key t u ≡ false) us
      each [] all = tt
      each (u ∷ us) all = ((let other = all.0 in grind (arith, nat_tests)), each us all.1)

  -- elements at two places have other keys
  keys-differ : (ts : List T) → IsDistinct same_key ts → (i j : ℕ) (d : T) → i < j → j < length ts → key (get_or ts i d) ≢ key (get_or ts j d)
  unfolding IsDistinct
  keys-differ [] distinct i j d lt in_range = absurd (omega arith)
  keys-differ (t ∷ ts) distinct i zero d lt in_range = absurd (omega arith)
  keys-differ (t ∷ ts) distinct zero (suc j) d lt in_range =
      let no_tie = All-at (λ u. same_key t u ≡ false) ts distinct.0 j d (omega arith) in
      λ same. grind (arith, nat_tests)
  keys-differ (t ∷ ts) distinct (suc i) (suc j) d lt in_range = keys-differ ts distinct.1 i j d (omega arith) (omega arith)

module _ {T : Type 0} (key : T → ℕ) (point : T → Axes) (axis : Axis) (ts ps : List T) (distinct : IsDistinctBy key ts)
    (order : IsInOrder key point axis ts ps) where
  -- how many are below one
  abbrev rank : T → ℕ
  rank u = length (filter (λ t. is_below_on key point axis t u) ts)

  -- the one at place j of the order has j below it
  rank-place : (j : ℕ) (d : T) → j < length ps → rank (get_or ps j d) ≡ j
  rank-place j d lt =
      let test : T → Bool = λ t. is_below_on key point axis t (get_or ps j d) in
      let apart = IsDistinct-IsPermutation (same_key key) (λ t u. grind (arith, nat_tests)) ts ps order.same (IsDistinct-from_keys key ts distinct) in
      let below = below-place (on_total (order_pair key point axis) pair_cmp_total) key
      (λ t u. key-from_tie (order_pair key point axis t) (order_pair key point axis u)) ps order.up (keys-differ key ps apart) j d lt in
      let kept = sum_by-IsPermutation (λ t. if test t then 1 else 0) ts ps order.same in
      length-filter test ts ∙ (sym kept ∙ (sym (length-filter test ps) ∙ below))

  -- so one with j below it is that of place j
  place-rank : (u : T) (j : ℕ) (d : T) → Contains ts u → rank u ≡ j → get_or ps j d ≡ u
  place-rank u j d has is =
      let there = Contains-permutation ts ps u order.same has in
      let place : there.0 ≡ j = sym (rank-place there.0 u there.1) ∙ (ap rank there.2 ∙ is) in
      ap (λ k. get_or ps k d) (sym place) ∙ (get_or_default ps there.0 d u there.1 ∙ there.2)

  -- and is found by that
  pub placed-known : (j : ℕ) (d : T) → j < length ps → placed_on key point axis j ts ≡ Some (get_or ps j d)
  placed-known j d lt =
      let u = get_or ps j d in
      let there = Contains-permutation ps ts u (IsPermutation-sym ts ps order.same) (j, lt, get_or_default ps j u d lt) in
      let k = there.0 in
      let apart = IsDistinct-from_keys key ts distinct in
      let before : (i : ℕ) → i < k → (rank (get_or ts i u) == j) ≡ false = λ i lower. (
      let v = get_or ts i u in
      elim (rank v == j) as (λ b. (rank v == j) ≡ b → b ≡ false) [
        | false ↦ λ _. refl
        | true ↦ λ e. absurd (keys-differ key ts apart i k u lower there.1
            (ap key (sym (place-rank v j d (Contains-get_or ts i u (omega (arith, there.1))) (eqb-true (rank v) j e)) ∙ sym there.2)))
      ] refl
      ) in
      find-first (λ v. rank v == j) ts k u there.1 (rw there.2 (eq-eqb (rank u) j (rank-place j d lt))) before ∙ ap Some there.2

-- what holds of the split at the middle member
pub split-known : (axis : Axis) (members : List Member) (m : Member) → 2 ≤ length members → axis ≡ widest_axis (λ (n : Member). n.at) members
    → middle_on (λ (n : Member). n.id) (λ (n : Member). n.at) axis members ≡ Some m
    → let s = split_at axis m in record {
      middle : middle_split members ≡ Some s;
      widest : axis ≡ widest_axis (λ (n : Member). n.at) members;
      at_a_member : Any (λ (n : Member). split_at axis n ≡ s) members;
      half_lower : length (lower_part s members) ≡ div_ceil (length members) 2;
      some_lower : 0 < length (lower_part s members);
      some_upper : 0 < length (upper_part s members);
    }
split-known axis members m two widest found =
    let s = split_at axis m in
    let held = find-holds (Contains members) (λ (n : Member). length (lower_part (split_at axis n) members) == div_ceil (length members) 2) members m
    (recursion_from_All (Contains members) members (All-contains_itself members)) found in
    let half : length (lower_part s members) ≡ div_ceil (length members) 2 = eqb-true (length (lower_part s members)) (div_ceil (length members) 2) held.1 in
    let both = length-filter_both (is_lower s) (is_upper s) (λ n. refl) members in
    record {
      middle = rw (← widest) (ap (option_map (split_at axis)) found);
      widest = widest;
      at_a_member = (held.0.0, m, held.0.1, held.0.2, refl);
      half_lower = half;
      some_lower = omega arith;
      some_upper = omega arith;
    }
