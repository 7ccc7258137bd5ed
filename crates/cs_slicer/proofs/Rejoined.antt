-- A cut undone: the rejoined rows, put in order, are the rows before the cut.
use Rattle.std.proofs.Common.{◌≡◌, ℕ, suc, ◌+◌, ◌<◌, ◌==◌, ◌&&◌, Bool, false, true, not, if◌then◌else◌}
use Rattle.std.proofs.Common.{List, [], ◌∷◌, ◌++◌, map, IsPermutation, Option, Some, None, refl, sym, ap, subst, ◌∙◌, arith}
use Rattle.std.specs.Bool.{Decides}
use Rattle.std.specs.List.{AllByRecursion, filter, sum_by}
use Rattle.std.specs.List.Sorted.{IsSortedBy}
use Rattle.std.proofs.lemmas.Bool.{and_parts, eqb-true, eq-eqb, false_from_ne_true, ne_eqb}
use Rattle.std.proofs.lemmas.Bool.Decides.{Decides-and, Decides-eqb, Decides-like, nat_tests}
use Rattle.std.proofs.lemmas.List.{map-append}
use Rattle.std.proofs.lemmas.List.Sums.{sum_by-cons}
use Rattle.std.proofs.lemmas.List.Sorted.{IsPermutation-filter_both, IsPermutation-trans, sum_by-IsPermutation}
use Rattle.cs_base.specs.declared.split.Cut.{Cut}
use Rattle.cs_base.proofs.Ascending.{All-of_filter}
use Rattle.cs_base.proofs.Elements.{All-weaker}
use Rattle.cs_roll.specs.Same.{is_same_member}
use Rattle.cs_roll.proofs.Same.{Decides-member}
use Rattle.cs_group.specs.declared.next.Turn.{Turn}
use Rattle.cs_group.specs.declared.row.Row.{Row}
use Rattle.cs_group.specs.Cut.{cut_rows, is_cut_off}
use Rattle.cs_group.specs.Group.{GroupState, IsGroup, is_among}
use Rattle.cs_group.specs.Rows.{IsInOrder, IsPairwise, is_before, moved_to, regions}
use Rattle.cs_group.proofs.Lists.{ByRecursion-passes}
use Rattle.cs_slicer.specs.Rejoined.{IsBelowCut, rejoined_row}
use Rattle.cs_slicer.specs.Turn.{IsTurnOf, middle_rows}
use Rattle.cs_slicer.proofs.Cutting.{cut-known}
use Rattle.cs_slicer.proofs.Middle.{old-numbered, spread-middle}

-- whether rows are the same
abbrev is_same_row : Row → Row → Bool
is_same_row r s = (r.region == s.region) && (is_same_member r.member s.member && (r.seq == s.seq))

Decides-row : (r s : Row) → Decides (is_same_row r s) (r ≡ s)
Decides-row r s =
    Decides-like _ (λ e. λ i. record { region = e.0 i; member = e.1.0 i; seq = e.1.1 i })
    (λ (e : r ≡ s). (ap (λ (t : Row). t.region) e, (ap (λ (t : Row). t.member) e, ap (λ (t : Row). t.seq) e)))
    (Decides-and _ _ (Decides-eqb r.region s.region) (Decides-and _ _ (Decides-member r.member s.member) (Decides-eqb r.seq s.seq)))

-- a row counts where it is this one
abbrev count_of : Row → Row → ℕ
count_of r s = if is_same_row s r then 1 else 0

-- what all have, one that is there has
there : (r : Row) (P : Row → Type 0) (rows : List Row) → AllByRecursion P rows → 0 < sum_by (count_of r) rows → P r
there r P [] all some = absurd (omega arith)
there r P (s ∷ ss) all some = by_row (is_same_row s r) refl (there r P ss all.1)
  where
    by_row : (b : Bool) → is_same_row s r ≡ b → (0 < sum_by (count_of r) ss → P r) → P r
    by_row true e later = subst P ((Decides-row s r).0 e) all.0
    by_row false e later =
        let none : count_of r s ≡ 0 = rw e refl in
        later (omega (arith, some, sum_by-cons (count_of r) s ss, none))

-- the first is there
first-there : (r : Row) (rows : List Row) → 0 < sum_by (count_of r) (r ∷ rows)
first-there r rows =
    let one : count_of r r ≡ 1 = rw ((Decides-row r r).1 refl) refl in
    omega (arith, sum_by-cons (count_of r) r rows, one)

-- rows in order, and rows of which none is before one in front of it, are the same where each is as often in both
same_in_order : (xs ys : List Row) → IsInOrder xs → IsPairwise (λ r s. is_before s r ≡ false) ys
    → ((f : Row → ℕ) → sum_by f xs ≡ sum_by f ys) → xs ≡ ys
same_in_order [] [] up rise same = refl
same_in_order [] (y ∷ ys) up rise same = absurd (omega (arith, same (λ r. 1), sum_by-cons (λ r. 1) y ys))
same_in_order (x ∷ xs) [] up rise same = absurd (omega (arith, same (λ r. 1), sum_by-cons (λ r. 1) x xs))
same_in_order (x ∷ xs) (y ∷ ys) up rise same =
    let first = firsts (is_same_row x y) refl in
    let rest = same_in_order xs ys up.1 rise.1
    (λ f. omega (arith, same f, sum_by-cons f x xs, sum_by-cons f y ys, ap f first)) in
    λ i. first i ∷ rest i
  where
    in_xs : is_same_row x y ≡ false → is_before x y ≡ true
    in_xs e =
        let none : count_of y x ≡ 0 = rw e refl in
        there y (λ r. is_before x r ≡ true) xs up.0
        (omega (arith, sum_by-cons (count_of y) x xs, same (count_of y), first-there y ys, none))

    in_ys : is_same_row y x ≡ false → is_before x y ≡ false
    in_ys e =
        let none : count_of x y ≡ 0 = rw e refl in
        there x (λ r. is_before r y ≡ false) ys rise.0
        (omega (arith, sum_by-cons (count_of x) y ys, same (count_of x), first-there x xs, none))

    firsts : (b : Bool) → is_same_row x y ≡ b → x ≡ y
    firsts true e = (Decides-row x y).0 e
    firsts false e =
        let other : is_same_row y x ≡ false =
        false_from_ne_true (is_same_row y x)
        (λ same_row. (let back = (Decides-row x y).1 (sym ((Decides-row y x).0 same_row)) in absurd (cc))) in
        absurd (let before = in_xs e in let after = in_ys other in cc)

-- none is before one that none is before
not_before-trans : (q r s : Row) → is_before r q ≡ false → is_before s r ≡ false → is_before s q ≡ false
not_before-trans q r s first second = grind (arith, nat_tests)

-- of sorted rows none is before one in front of it
pairwise-sorted : (rows : List Row) → IsSortedBy is_before rows → IsPairwise (λ r s. is_before s r ≡ false) rows
pairwise-sorted [] sorted = tt
pairwise-sorted (r ∷ []) sorted = (tt, tt)
pairwise-sorted (r ∷ s ∷ ss) sorted =
    let behind : IsSortedBy is_before (s ∷ ss) =
    λ k d low lt. (let next : suc k + 1 ≡ suc (k + 1) = omega arith in rw next at (sorted (suc k) d (omega arith) (omega arith))) in
    let rest = pairwise-sorted (s ∷ ss) behind in
    let first : is_before s r ≡ false = sorted 0 r (omega arith) (omega arith) in
    let later = All-weaker (λ t. is_before t s ≡ false) (λ t. is_before t r ≡ false) (λ t after. not_before-trans r s t first after) ss rest.0 in
    ((first, later), rest)

module _ (region : ℕ) (cut : Cut) where
  abbrev back : Row → Row
  back r = rejoined_row region cut.upper r

  -- a row that isn't of the upper region stays
  back-stays : (rows : List Row) → AllByRecursion (λ (r : Row). r.region < cut.upper) rows → map back rows ≡ rows
  back-stays [] below = refl
  back-stays (r ∷ rs) below =
      let other : (r.region == cut.upper) ≡ false = ne_eqb r.region cut.upper (λ e. omega (arith, below.0, e)) in
      let first : back r ≡ r = rw other refl in
      let rest = back-stays rs below.1 in
      λ i. first i ∷ rest i

  -- and one that was moved there goes back
  back-moved : (rows : List Row) → AllByRecursion (λ r. is_cut_off region cut.split r ≡ true) rows → map back (map (moved_to cut.upper) rows) ≡ rows
  back-moved [] off = refl
  back-moved (r ∷ rs) off =
      let here : r.region ≡ region = eqb-true r.region region (and_parts (r.region == region) _ off.0).0 in
      let upper : (cut.upper == cut.upper) ≡ true = eq-eqb cut.upper cut.upper refl in
      let first : back (moved_to cut.upper r) ≡ r = rw upper (λ i. record { region = sym here i; member = r.member; seq = r.seq }) in
      let rest = back-moved rs off.1 in
      λ i. first i ∷ rest i

  -- so the rejoined rows are those before the cut, in another order
  rejoined-permutation : (before : List Row) → AllByRecursion (λ (r : Row). r.region < cut.upper) before
      → IsPermutation before (map back (cut_rows region cut before))
  rejoined-permutation before below =
      let off : Row → Bool = is_cut_off region cut.split in
      let on : Row → Bool = λ r. not (off r) in
      let stayed = back-stays (filter on before) (All-of_filter (λ (r : Row). r.region < cut.upper) on before below) in
      let moved = back-moved (filter off before) (ByRecursion-passes off before) in
      let rejoined : map back (cut_rows region cut before) ≡ filter on before ++ filter off before =
      map-append back (filter on before) (map (moved_to cut.upper) (filter off before)) ∙ (λ i. stayed i ++ moved i) in
      subst (IsPermutation before) (sym rejoined) (IsPermutation-filter_both on off (λ r. twice (off r)) before)
    where
      twice : (b : Bool) → b ≡ not (not b)
      twice true = refl
      twice false = refl

  -- put in order they are these
  pub rejoined-sorted : (before sorted : List Row) → IsInOrder before → AllByRecursion (λ (r : Row). r.region < cut.upper) before
      → IsPermutation (map (rejoined_row region cut.upper) (cut_rows region cut before)) sorted → IsSortedBy is_before sorted → sorted ≡ before
  rejoined-sorted before sorted up below same in_order =
      let all = IsPermutation-trans before (map back (cut_rows region cut before)) sorted (rejoined-permutation before below) same in
      sym (same_in_order before sorted up (pairwise-sorted sorted in_order) (λ f. sym (sum_by-IsPermutation f before sorted all)))

-- the region that a turn's cut makes is above those of the rows before it
module _ (before : GroupState) (turn : Turn) (is : IsGroup before) (of : IsTurnOf before turn) where
  pub below_cut-middle : IsBelowCut turn.cut (middle_rows before turn)
  below_cut-middle = by_cut turn.cut refl
    where
      by_cut : (o : Option (ℕ × Cut)) → turn.cut ≡ o → IsBelowCut o (middle_rows before turn)
      by_cut None e = tt
      by_cut (Some cut) e =
          let upper : cut.1.upper ≡ before.next_region = (cut-known before turn is of cut.0 cut.1 e).upper_is in
          All-weaker (λ (r : Row). is_among (regions before.rows) r.region ≡ true) (λ (r : Row). r.region < cut.1.upper)
          (λ r there. subst (λ n. r.region < n) (sym upper) (old-numbered before turn is of r.region there)) (middle_rows before turn)
          (spread-middle before turn is of).in_known
