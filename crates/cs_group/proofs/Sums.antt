-- The kept sums, edited as a row comes or goes, are those of the rows then.
use Rattle.std.proofs.Common.{◌≡◌, ℕ, ◌+◌, ◌<◌, ◌≤◌, ◌==◌, ◌||◌, Bool, true, false, not, if◌then◌else◌, List, [], ◌∷◌, length, map}
use Rattle.std.proofs.Common.{Option, Some, None, refl, sym, ap, subst, ◌∙◌, arith, inl, inr}
use Rattle.std.specs.List.{AllByRecursion, fold, list_any}
use Rattle.std.specs.Option.{IfSome, option_map}
use Rattle.std.proofs.lemmas.Bool.{cases_Bool, eqb-true, eqb-false, eq-eqb, or_left}
use Rattle.std.proofs.lemmas.Bool.Decides.{nat_tests}
use Rattle.std.proofs.lemmas.Int.{ints}
use Rattle.cs_base.specs.Ascending.{IsAscending, IsAscendingBy, at_key, placed_by, without_key}
use Rattle.cs_base.specs.Axes.{Axes}
use Rattle.cs_base.specs.Limits.{most_summed}
use Rattle.cs_base.specs.Total.{IsTotal, Total}
use Rattle.cs_base.specs.declared.member.Member.{Member}
use Rattle.cs_base.proofs.Ascending.{All-of_filter, IsAscendingBy-placed, IsAscendingBy-without, find-placed, find-without, same_at_keys}
use Rattle.cs_near.specs.Sums.{one_point}
use Rattle.cs_near.specs.declared.keyed.RegionSum.{RegionSum}
use Rattle.cs_group.specs.declared.kept.KeptSum.{KeptSum}
use Rattle.cs_group.specs.declared.row.Row.{Row}
use Rattle.cs_group.specs.Group.{is_among}
use Rattle.cs_group.specs.Place.{region_sums, sum_in}
use Rattle.cs_group.specs.Rows.{HasDistinctIds, IsRow, members_in, placed, regions, row_of, without}
use Rattle.cs_group.specs.Table.{kept_of, region_kept, sums_less, sums_less_of, sums_with, total_with, with_point, without_point}
use Rattle.cs_group.proofs.Edits.{length-without-le, seen-placed, seen-without}
use Rattle.cs_group.proofs.Lists.{ByRecursion-map}
use Rattle.cs_group.proofs.Members.{length-members_in-le}
use Rattle.cs_group.proofs.Regions.{IsAscending-regions, no_region_empty-here}
use Rattle.cs_group.proofs.Totals.{IsTotal-here, point-gone, same-total, sum_at, sum-own, sum-same, sum-swapped, sum_here}

-- ---- an edit of values, seen through a function of them
module _ {S T : Type 0} (f : S → T) (key : T → ℕ) where
  abbrev key_through : S → ℕ
  key_through x = key (f x)

  map-placed : (x : S) (xs : List S) → map f (placed_by key_through x xs) ≡ placed_by key (f x) (map f xs)
  map-placed x [] = refl
  map-placed x (y ∷ ys) = (let rest = map-placed x ys in grind (arith, nat_tests))

  map-without : (k : ℕ) (xs : List S) → map f (without_key key_through k xs) ≡ without_key key k (map f xs)
  map-without k [] = refl
  map-without k (y ∷ ys) = (let rest = map-without k ys in grind (arith, nat_tests))

  map-at : (k : ℕ) (xs : List S) → option_map f (at_key key_through k xs) ≡ at_key key k (map f xs)
  map-at k [] = refl
  map-at k (y ∷ ys) = (let rest = map-at k ys in grind (arith, nat_tests))

-- ---- the sum of a region among those of all
-- the region of a sum
abbrev region_of : RegionSum → ℕ
region_of t = t.region

-- whether a region has a row
abbrev has_region : ℕ → List Row → Bool
has_region n rows = list_any (λ (r : Row). r.region == n) rows

-- the sum of a region, where it has a row
abbrev sum_there : ℕ → List Row → Option RegionSum
sum_there n rows = if has_region n rows then Some (sum_in rows n) else None

among-placed : (n q : ℕ) (ns : List ℕ) → is_among (placed_by (λ m. m) n ns) q ≡ ((n == q) || is_among ns q)
among-placed n q [] = refl
among-placed n q (m ∷ ms) = (let rest = among-placed n q ms in grind (arith, nat_tests))

among-from : (q : ℕ) (known : List ℕ) (rows : List Row)
    → is_among (fold (λ ns (r : Row). placed_by (λ m. m) r.region ns) known rows) q ≡ (is_among known q || has_region q rows)
among-from q known [] = grind (arith, nat_tests)
among-from q known (r ∷ rs) =
    let rest = among-from q (placed_by (λ m. m) r.region known) rs in
    let one = among-placed r.region q known in
    grind (arith, nat_tests)

-- the regions are those that have a row
among-regions : (q : ℕ) (rows : List Row) → is_among (regions rows) q ≡ has_region q rows
among-regions q rows = among-from q [] rows

at-sums : (rows : List Row) (q : ℕ) (ns : List ℕ) → at_key region_of q (map (sum_in rows) ns) ≡ (if is_among ns q then Some (sum_in rows q) else None)
at-sums rows q [] = refl
at-sums rows q (n ∷ ns) = go (n == q) refl (at-sums rows q ns)
  where
    go : (b : Bool) → (n == q) ≡ b → at_key region_of q (map (sum_in rows) ns) ≡ (if is_among ns q then Some (sum_in rows q) else None)
        → at_key region_of q (map (sum_in rows) (n ∷ ns)) ≡ (if is_among (n ∷ ns) q then Some (sum_in rows q) else None)
    go true e rest = rw e (ap (λ m. Some (sum_in rows m)) (eqb-true n q e))
    go false e rest = rw e rest

-- so the sum of a region is found where it has a row
pub at-region_sums : (q : ℕ) (rows : List Row) → at_key region_of q (region_sums rows) ≡ sum_there q rows
at-region_sums q rows = at-sums rows q (regions rows) ∙ ap (λ b. if b then Some (sum_in rows q) else None) (among-regions q rows)

-- the sums ascend
ascending-sums : (rows : List Row) (ns : List ℕ) → IsAscending ns → IsAscendingBy region_of (map (sum_in rows) ns)
ascending-sums rows [] up = tt
ascending-sums rows (n ∷ ns) up = (ByRecursion-map (sum_in rows) (λ (t : RegionSum). n < t.region) ns up.0, ascending-sums rows ns up.1)

pub IsAscending-sums : (rows : List Row) → IsAscendingBy region_of (region_sums rows)
IsAscending-sums rows = ascending-sums rows (regions rows) (IsAscending-regions rows)

-- sums in order that have each region's sum are those of the rows
sums-found : (rows : List Row) (sums : List RegionSum) → IsAscendingBy region_of sums
    → ((q : ℕ) → at_key region_of q sums ≡ sum_there q rows) → sums ≡ region_sums rows
sums-found rows sums up found = same_at_keys region_of sums (region_sums rows) up (IsAscending-sums rows) (λ q. found q ∙ sym (at-region_sums q rows))

-- ---- a region's rows in any order
region-same : (n : ℕ) (r : Row) (xs ys : List Row) → has_region n xs ≡ has_region n ys → has_region n (r ∷ xs) ≡ has_region n (r ∷ ys)
region-same n r xs ys e = ap (λ b. (r.region == n) || b) e

region-swapped : (n : ℕ) (r s : Row) (xs : List Row) → has_region n (r ∷ s ∷ xs) ≡ has_region n (s ∷ r ∷ xs)
region-swapped n r s xs =
    elim (r.region == n) as (λ b. (b || ((s.region == n) || has_region n xs)) ≡ ((s.region == n) || (b || has_region n xs))) [
      | true ↦ elim (s.region == n) as (λ c. true ≡ (c || true)) [ true ↦ refl | false ↦ refl ]
      | false ↦ refl
    ]

-- a region has as many members as its sum counts, and none where it has no row
none-there : (n : ℕ) (rows : List Row) → has_region n rows ≡ false → members_in n rows ≡ []
none-there n [] none = refl
none-there n (r ∷ rs) none = go (r.region == n) refl none (none-there n rs)
  where
    go : (b : Bool) → (r.region == n) ≡ b → (b || has_region n rs) ≡ false → (has_region n rs ≡ false → members_in n rs ≡ [])
        → members_in n (r ∷ rs) ≡ []
    go true e some rest = absurd (cc)
    go false e later rest = rw e (rest later)

some-there : (n : ℕ) (rows : List Row) → has_region n rows ≡ true → 0 < length (members_in n rows)
some-there n [] some = absurd (cc)
some-there n (r ∷ rs) some = go (r.region == n) refl some (some-there n rs)
  where
    go : (b : Bool) → (r.region == n) ≡ b → (b || has_region n rs) ≡ true → (has_region n rs ≡ true → 0 < length (members_in n rs))
        → 0 < length (members_in n (r ∷ rs))
    go true e some rest = rw e (omega arith)
    go false e later rest = rw e (rest later)

-- and the other way round
absent-none : (n : ℕ) (rows : List Row) → length (members_in n rows) ≡ 0 → has_region n rows ≡ false
absent-none n rows none = elim (cases_Bool (has_region n rows)) [
  | inl there ↦ absurd (let some = some-there n rows there in omega (arith, some, none))
  | inr not_there ↦ not_there
]

present-some : (n : ℕ) (rows : List Row) → 0 < length (members_in n rows) → has_region n rows ≡ true
present-some n rows some = elim (cases_Bool (has_region n rows)) [
  | inl there ↦ there
  | inr not_there ↦ absurd (let none = ap (λ (ms : List Member). length ms) (none-there n rows not_there) in omega (arith, some, none))
]

-- a row in front, in its region or in another
there-own : (r : Row) (rows : List Row) → sum_there r.region (r ∷ rows)
    ≡ Some (let s : RegionSum = record { region = r.region; sum = with_point (sum_here r.region rows) r.member.at } in s)
there-own r rows =
    let same : (r.region == r.region) ≡ true = eq-eqb r.region r.region refl in
    let some : has_region r.region (r ∷ rows) ≡ true = or_left (r.region == r.region) (has_region r.region rows) same in
    ap (λ b. if b then Some (sum_in (r ∷ rows) r.region) else None) some
    ∙ ap (λ (t : Total). Some (let s : RegionSum = record { region = r.region; sum = t } in s)) (sum-own r.region r rows same)

there-other : (q : ℕ) (r : Row) (rows : List Row) → (r.region == q) ≡ false → sum_there q (r ∷ rows) ≡ sum_there q rows
there-other q r rows e = rw e refl

-- lists that look alike have the same sum
there-same : (q : ℕ) (xs ys : List Row) → sum_here q xs ≡ sum_here q ys → has_region q xs ≡ has_region q ys → sum_there q xs ≡ sum_there q ys
there-same q xs ys sum has =
    ap (λ (t : Total). if has_region q xs then Some (let s : RegionSum = record { region = q; sum = t } in s) else None) sum
    ∙ ap (λ b. if b then Some (sum_in ys q) else None) has

there-placed : (q : ℕ) (r : Row) (rows : List Row) → sum_there q (placed r rows) ≡ sum_there q (r ∷ rows)
there-placed q r rows =
    there-same q (placed r rows) (r ∷ rows) (seen-placed (sum_here q) (sum-same q) (sum-swapped q) r rows)
    (seen-placed (has_region q) (region-same q) (region-swapped q) r rows)

there-without : (q : ℕ) (r : Row) (rows : List Row) → HasDistinctIds rows → row_of r.member.id rows ≡ Some r
    → sum_there q rows ≡ sum_there q (r ∷ without r.member.id rows)
there-without q r rows distinct found =
    there-same q rows (r ∷ without r.member.id rows) (seen-without (sum_here q) (sum-same q) (sum-swapped q) r rows distinct found)
    (seen-without (has_region q) (region-same q) (region-swapped q) r rows distinct found)

-- ---- the edits
-- a point alone, as a sum of none with one more
one-alone : (p : Axes) → one_point p ≡ with_point (sum_at []) p
one-alone p = same-total (one_point p) (with_point (sum_at []) p) refl (omega (arith, ints)) (omega (arith, ints)) (omega (arith, ints))

-- the kept sums as sums
abbrev totals : List KeptSum → List RegionSum
totals sums = map (λ (kept : KeptSum). kept.total) sums

-- the sum that is found
kept-sum : {n : ℕ} {t : Total} (kept : KeptSum) → Some kept.total ≡ Some (let s : RegionSum = record { region = n; sum = t } in s) → kept.total.sum ≡ t
kept-sum {n} {t} kept e =
    let is : kept.total ≡ (let s : RegionSum = record { region = n; sum = t } in s) = cc in
    ap (λ (s : RegionSum). s.sum) is

module _ (rows : List Row) (sums : List KeptSum) (now : totals sums ≡ region_sums rows) where
  -- what is kept of a region
  kept-at : (n : ℕ) → option_map (λ (kept : KeptSum). kept.total) (at_key region_kept n sums) ≡ sum_there n rows
  kept-at n = map-at (λ (kept : KeptSum). kept.total) region_of n sums ∙ (ap (at_key region_of n) now ∙ at-region_sums n rows)

  -- with one more row it is a sum
  pub kept-total : (r : Row) → AllByRecursion IsRow rows → IsRow r → length rows < most_summed
      → IfSome (at_key region_kept r.region sums) (λ kept. IsTotal (with_point kept.total.sum r.member.at))
  kept-total r allowed own few = go (at_key region_kept r.region sums) (has_region r.region rows) refl (kept-at r.region)
    where
      go : (o : Option KeptSum) (b : Bool) → has_region r.region rows ≡ b
          → option_map (λ (kept : KeptSum). kept.total) o ≡ (if b then Some (sum_in rows r.region) else None)
          → IfSome o (λ kept. IsTotal (with_point kept.total.sum r.member.at))
      go None b e found = tt
      go (Some kept) true e found =
          let is : kept.total ≡ sum_in rows r.region = cc in
          let same : (r.region == r.region) ≡ true = eq-eqb r.region r.region refl in
          let more : sum_here r.region (r ∷ rows) ≡ with_point kept.total.sum r.member.at =
          sum-own r.region r rows same ∙ ap (λ (t : RegionSum). with_point t.sum r.member.at) (sym is) in
          let all = length-members_in-le r.region (r ∷ rows) in
          subst IsTotal more
          (IsTotal-here r.region (r ∷ rows) (own, allowed) (no_region_empty-here r rows) (omega (arith, all, few)))
      go (Some kept) false e found = absurd (cc)

  -- one more row
  module _ (r : Row) where
    -- the sum that is put is that of the region with the row
    new-sum : total_with r.member.at (at_key region_kept r.region sums) ≡ with_point (sum_here r.region rows) r.member.at
    new-sum = go (at_key region_kept r.region sums) (has_region r.region rows) refl (kept-at r.region)
      where
        go : (o : Option KeptSum) (b : Bool) → has_region r.region rows ≡ b
            → option_map (λ (kept : KeptSum). kept.total) o ≡ (if b then Some (sum_in rows r.region) else None)
            → total_with r.member.at o ≡ with_point (sum_here r.region rows) r.member.at
        go (Some kept) true e found =
            let is : kept.total ≡ sum_in rows r.region = cc in
            ap (λ (t : RegionSum). with_point t.sum r.member.at) is
        go (Some kept) false e found = absurd (cc)
        go None true e found = absurd (cc)
        go None false e found =
            let none = none-there r.region rows e in
            one-alone r.member.at ∙ ap (λ (ms : List Member). with_point (sum_at ms) r.member.at) (sym none)

    pub sums-came : totals (sums_with r.region r.member.at sums) ≡ region_sums (placed r rows)
    sums-came =
        let put : RegionSum = record { region = r.region; sum = total_with r.member.at (at_key region_kept r.region sums) } in
        let edited : totals (sums_with r.region r.member.at sums) ≡ placed_by region_of put (region_sums rows) =
        map-placed (λ (kept : KeptSum). kept.total) region_of
        (kept_of r.region (total_with r.member.at (at_key region_kept r.region sums))) sums ∙ ap (placed_by region_of put) now in
        edited ∙ sums-found (placed r rows) (placed_by region_of put (region_sums rows))
        (IsAscendingBy-placed region_of put (region_sums rows) (IsAscending-sums rows))
        (λ q. find-placed region_of put q (region_sums rows) ∙ (found q (r.region == q) refl ∙ sym (there-placed q r rows)))
      where
        found : (q : ℕ) (b : Bool) → (r.region == q) ≡ b → (if b
            then Some (let s : RegionSum = record { region = r.region; sum = total_with r.member.at (at_key region_kept r.region sums) } in s)
            else at_key region_of q (region_sums rows)) ≡ sum_there q (r ∷ rows)
        found q true e =
            ap (λ (t : Total). Some (let s : RegionSum = record { region = r.region; sum = t } in s)) new-sum
            ∙ (sym (there-own r rows) ∙ ap (λ n. sum_there n (r ∷ rows)) (eqb-true r.region q e))
        found q false e = at-region_sums q rows ∙ sym (there-other q r rows e)

  -- one row fewer
  module _ (r : Row) (distinct : HasDistinctIds rows) (here : row_of r.member.id rows ≡ Some r) where
    -- the sum of the region without the row
    abbrev sum_left : Total
    sum_left = sum_here r.region (without r.member.id rows)

    -- what is kept of the row's region, with and without it
    kept-own : option_map (λ (kept : KeptSum). kept.total) (at_key region_kept r.region sums)
        ≡ Some (let s : RegionSum = record { region = r.region; sum = with_point sum_left r.member.at } in s)
    kept-own = kept-at r.region ∙ (there-without r.region r rows distinct here ∙ there-own r (without r.member.id rows))

    there-left : (q : ℕ) → (r.region == q) ≡ false → at_key region_of q (region_sums rows) ≡ sum_there q (without r.member.id rows)
    there-left q e =
        at-region_sums q rows ∙ (there-without q r rows distinct here ∙ there-other q r (without r.member.id rows) e)

    -- where it was the last, the region has no sum
    went-last : sum_left.count ≡ 0 → without_key region_of r.region (region_sums rows) ≡ region_sums (without r.member.id rows)
    went-last none =
        sums-found (without r.member.id rows) (without_key region_of r.region (region_sums rows))
        (IsAscendingBy-without region_of r.region (region_sums rows) (IsAscending-sums rows))
        (λ q. find-without region_of r.region q (region_sums rows) ∙ found q (r.region == q) refl)
      where
        absent : has_region r.region (without r.member.id rows) ≡ false
        absent = absent-none r.region (without r.member.id rows) none

        found : (q : ℕ) (b : Bool) → (r.region == q) ≡ b
            → (if b then None else at_key region_of q (region_sums rows)) ≡ sum_there q (without r.member.id rows)
        found q true e = subst (λ n. None ≡ sum_there n (without r.member.id rows)) (eqb-true r.region q e) (rw absent refl)
        found q false e = there-left q e

    -- and otherwise that of the others
    went-other : 0 < sum_left.count → placed_by region_of (let s : RegionSum = record { region = r.region; sum = sum_left } in s) (region_sums rows)
        ≡ region_sums (without r.member.id rows)
    went-other some =
        let put : RegionSum = record { region = r.region; sum = sum_left } in
        sums-found (without r.member.id rows) (placed_by region_of put (region_sums rows))
        (IsAscendingBy-placed region_of put (region_sums rows) (IsAscending-sums rows))
        (λ q. find-placed region_of put q (region_sums rows) ∙ found q (r.region == q) refl)
      where
        present : has_region r.region (without r.member.id rows) ≡ true
        present = present-some r.region (without r.member.id rows) some

        found : (q : ℕ) (b : Bool) → (r.region == q) ≡ b
            → (if b then Some (let s : RegionSum = record { region = r.region; sum = sum_left } in s) else at_key region_of q (region_sums rows))
            ≡ sum_there q (without r.member.id rows)
        found q true e =
            subst (λ n. Some (let s : RegionSum = record { region = r.region; sum = sum_left } in s) ≡ sum_there n (without r.member.id rows))
            (eqb-true r.region q e) (rw present refl)
        found q false e = there-left q e

    -- what is kept of the region counts the row and the others
    kept-count : (kept : KeptSum) → kept.total.sum ≡ with_point sum_left r.member.at → kept.total.sum.count ≡ sum_left.count + 1
    kept-count kept is = ap (λ (t : Total). t.count) is

    -- and without the row is the sum of the others
    kept-left : (kept : KeptSum) → kept.total.sum ≡ with_point sum_left r.member.at → without_point kept.total.sum r.member.at ≡ sum_left
    kept-left kept is = ap (λ (t : Total). without_point t r.member.at) is ∙ point-gone sum_left r.member.at

    went-step : (kept : KeptSum) → kept.total.sum ≡ with_point sum_left r.member.at → (b : Bool) → (kept.total.sum.count == 1) ≡ b
        → totals (if b then without_key region_kept r.region sums
        else placed_by region_kept (kept_of r.region (without_point kept.total.sum r.member.at)) sums)
        ≡ region_sums (without r.member.id rows)
    went-step kept is true last =
        let one : kept.total.sum.count ≡ 1 = eqb-true kept.total.sum.count 1 last in
        let none : sum_left.count ≡ 0 = omega (arith, one, kept-count kept is) in
        map-without (λ (k : KeptSum). k.total) region_of r.region sums ∙ (ap (without_key region_of r.region) now ∙ went-last none)
    went-step kept is false more =
        let several = eqb-false kept.total.sum.count 1 more in
        let some : 0 < sum_left.count = omega (arith, several, kept-count kept is) in
        map-placed (λ (k : KeptSum). k.total) region_of (kept_of r.region (without_point kept.total.sum r.member.at)) sums
        ∙ (ap (λ (t : Total). placed_by region_of (let s : RegionSum = record { region = r.region; sum = t } in s) (totals sums)) (kept-left kept is)
        ∙ (ap (placed_by region_of (let s : RegionSum = record { region = r.region; sum = sum_left } in s)) now ∙ went-other some))

    pub sums-went : totals (sums_less r.region r.member.at sums) ≡ region_sums (without r.member.id rows)
    sums-went = go (at_key region_kept r.region sums) kept-own
      where
        go : (o : Option KeptSum) → option_map (λ (kept : KeptSum). kept.total) o
            ≡ Some (let s : RegionSum = record { region = r.region; sum = with_point sum_left r.member.at } in s)
            → totals (sums_less_of r.region r.member.at sums o) ≡ region_sums (without r.member.id rows)
        go None e = absurd (cc)
        go (Some kept) e = went-step kept (kept-sum kept e) (kept.total.sum.count == 1) refl

    -- what is left of several is a sum
    left-total : AllByRecursion IsRow rows → length rows ≤ most_summed → (kept : KeptSum) → kept.total.sum ≡ with_point sum_left r.member.at
        → 1 < kept.total.sum.count → IsTotal (without_point kept.total.sum r.member.at)
    left-total allowed few kept is more =
        let kept_rows : Row → Bool = λ s. not (s.member.id == r.member.id) in
        let some : 0 < sum_left.count = omega (arith, more, kept-count kept is) in
        let few_left : sum_left.count ≤ most_summed =
        omega (arith, length-members_in-le r.region (without r.member.id rows), length-without-le r.member.id rows, few) in
        subst IsTotal (sym (kept-left kept is))
        (IsTotal-here r.region (without r.member.id rows) (All-of_filter IsRow kept_rows rows allowed) some few_left)

    pub less-total : AllByRecursion IsRow rows → length rows ≤ most_summed → IfSome (at_key region_kept r.region sums)
        (λ kept. 1 < kept.total.sum.count → IsTotal (without_point kept.total.sum r.member.at))
    less-total allowed few = go (at_key region_kept r.region sums) kept-own
      where
        go : (o : Option KeptSum) → option_map (λ (kept : KeptSum). kept.total) o
            ≡ Some (let s : RegionSum = record { region = r.region; sum = with_point sum_left r.member.at } in s)
            → IfSome o (λ kept. 1 < kept.total.sum.count → IsTotal (without_point kept.total.sum r.member.at))
        go None e = tt
        go (Some kept) e = λ more. left-total allowed few kept (kept-sum kept e) more
