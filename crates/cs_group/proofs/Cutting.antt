-- A cut leaves a group, and so does none.
use Rattle.std.proofs.Common.{◌≡◌, ◌≢◌, ℕ, ◌+◌, ◌<◌, ◌≤◌, ◌==◌, eqb, Bool, true, false, not, nat_lt}
use Rattle.std.proofs.Common.{List, [], ◌∷◌, ◌++◌, length, map, get_or, Option, Some, None}
use Rattle.std.proofs.Common.{refl, sym, subst, ◌∙◌, arith, ◌⊎◌, inl, inr, length-append}
use Rattle.std.specs.List.{AllByRecursion, filter, fold, list_any}
use Rattle.std.specs.Option.{option_map}
use Rattle.std.proofs.lemmas.Bool.{cases_Bool, eqb-true, eq-eqb, or_left, or_right, or_cases, and_parts, ltb-false, ltb-true}
use Rattle.std.proofs.lemmas.Bool.Decides.{Decides-eqb, nat_tests}
use Rattle.std.proofs.lemmas.Cmp.{nat_eq_equiv}
use Rattle.std.proofs.lemmas.List.{length-map}
use Rattle.std.proofs.lemmas.List.Filters.{length-filter_both}
use Rattle.std.proofs.lemmas.Map.Made.{length-le_from_is_member, IsDistinct-from_AllPairs}
use Rattle.cs_base.specs.Ascending.{placed_by}
use Rattle.cs_base.proofs.Ascending.{key-lt, All-of_filter}
use Rattle.cs_base.specs.Limits.{last_number, most_regions}
use Rattle.cs_base.specs.Split.{is_upper}
use Rattle.cs_base.specs.declared.split.Cut.{Cut}
use Rattle.cs_base.specs.declared.split.Split.{Split}
use Rattle.cs_near.specs.Middle.{middle_split}
use Rattle.cs_group.specs.declared.row.Row.{Row}
use Rattle.cs_group.specs.Cut.{cut_at, cut_due, cut_rows, is_cut_off, region_to_cut}
use Rattle.cs_group.specs.Group.{GroupState, IsGroup, is_among}
use Rattle.cs_group.specs.Next.{cut_group, is_spent}
use Rattle.cs_group.specs.Place.{region_sums, sum_in}
use Rattle.cs_group.specs.Rows.{IsInOrder, IsPairwise, IsRow, HasDistinctIds, has_member, is_before, members_in, moved_to, regions}
use Rattle.cs_group.proofs.Lists.{ByRecursion-weaken, ByRecursion-both, ByRecursion-passes, ByRecursion-append, ByRecursion-map}
use Rattle.cs_group.proofs.Lists.{IsPairwise-filter, IsPairwise-append, IsPairwise-map}
use Rattle.cs_group.proofs.Lists.{distinct-from_pairwise, pairwise-from_distinct}
use Rattle.cs_group.proofs.Merging.{AreApart, apart-parts, in_parts}
use Rattle.cs_group.proofs.Order.{before-id, before-from_id, before-region}
use Rattle.cs_group.proofs.Regions.{ByRecursion-regions, IsAscending-regions}

-- what each element has anyway
pub always : {T : Type 0} (P : T → Type 0) → ((x : T) → P x) → (xs : List T) → AllByRecursion P xs
always P has [] = tt
always P has (x ∷ xs) = (has x, always P has xs)

-- what holds of each two that have something
IsPairwise-under : {T : Type 0} (P : T → Type 0) (R S : T → T → Type 0) → ((x y : T) → P x → P y → R x y → S x y) → (xs : List T)
    → AllByRecursion P xs → IsPairwise R xs → IsPairwise S xs
IsPairwise-under P R S gives [] all each = tt
IsPairwise-under {T} P R S gives (x ∷ xs) all each = (
  ByRecursion-weaken (λ (y : T). P y × R x y) (S x) (λ y both. gives x y all.0 both.0 both.1) xs (ByRecursion-both P (R x) xs all.1 each.0),
  IsPairwise-under P R S gives xs all.1 each.1,
)

-- being apart goes both ways
apart-swap : (rows moved : List Row) → AreApart rows moved → AreApart moved rows
apart-swap [] moved apart = tt
apart-swap (s ∷ ss) moved apart = (
  ByRecursion-weaken (λ (r : Row). AllByRecursion (λ (t : Row). t.member.id ≢ r.member.id) (s ∷ ss)) (λ (r : Row). r.member.id ≢ s.member.id)
      (λ r each same. each.0 (sym same)) moved apart,
  apart-swap ss moved (ByRecursion-weaken (λ (r : Row). AllByRecursion (λ (t : Row). t.member.id ≢ r.member.id) (s ∷ ss))
      (λ (r : Row). AllByRecursion (λ (t : Row). t.member.id ≢ r.member.id) ss) (λ r each. each.1) moved apart),
)

-- a test that a stronger one passes
pub any-weaken : {T : Type 0} (p q : T → Bool) → ((x : T) → p x ≡ true → q x ≡ true) → (xs : List T) → list_any p xs ≡ true → list_any q xs ≡ true
any-weaken p q gives [] some = some
any-weaken p q gives (x ∷ xs) some = elim (or_cases (p x) (list_any p xs) some) [
  | inl here ↦ or_left (q x) (list_any q xs) (gives x here)
  | inr later ↦ or_right (q x) (list_any q xs) (any-weaken p q gives xs later)
]

-- what all have, one among them has
pub any-holds : (P : ℕ → Type 0) (n : ℕ) (ns : List ℕ) → AllByRecursion P ns → list_any (eqb n) ns ≡ true → P n
any-holds P n [] all some = absurd (cc)
any-holds P n (m ∷ ms) all some = elim (or_cases (eqb n m) (list_any (eqb n) ms) some) [
  | inl here ↦ subst P (sym (eqb-true n m here)) all.0
  | inr later ↦ any-holds P n ms all.1 later
]

-- there are at most as many regions as numbers that have them all
pub length-regions-le : (ns : List ℕ) (rows : List Row) → AllByRecursion (λ (r : Row). is_among ns r.region ≡ true) rows → length (regions rows) ≤ length ns
length-regions-le ns rows all =
    let P : ℕ → Type 0 = λ n. list_any (eqb n) ns ≡ true in
    let each = ByRecursion-regions P rows
    (ByRecursion-weaken (λ (r : Row). is_among ns r.region ≡ true) (λ (r : Row). P r.region)
    (λ r e. any-weaken (λ m. m == r.region) (eqb r.region) (λ m same. eq-eqb r.region m (sym (eqb-true m r.region same))) ns e) rows all) in
    let apart : (i j d : ℕ) → i < j → j < length (regions rows) → get_or (regions rows) i d ≢ get_or (regions rows) j d = λ i j d lt in_range same.
    (let rise = key-lt (λ n. n) (regions rows) (IsAscending-regions rows) i j d lt in_range in omega arith) in
    length-le_from_is_member nat_eq_equiv (regions rows) ns (IsDistinct-from_AllPairs Decides-eqb (regions rows) apart)
    (λ q has. any-holds P q (regions rows) each has)

-- a number that is there stays there when another is placed
pub is_among-placed : (n m : ℕ) (ns : List ℕ) → is_among ns m ≡ true → is_among (placed_by (λ k. k) n ns) m ≡ true
is_among-placed n m [] some = absurd (cc)
is_among-placed n m (k ∷ ks) some = (let rest = is_among-placed n m ks in grind (arith, nat_tests))

-- and the placed one is there
pub is_among-placed_itself : (n : ℕ) (ns : List ℕ) → is_among (placed_by (λ k. k) n ns) n ≡ true
is_among-placed_itself n [] = or_left (n == n) false (eq-eqb n n refl)
is_among-placed_itself n (k ∷ ks) = (let rest = is_among-placed_itself n ks in grind (arith, nat_tests))

among-stays : (n : ℕ) (known : List ℕ) (rows : List Row) → is_among known n ≡ true
    → is_among (fold (λ ns (r : Row). placed_by (λ k. k) r.region ns) known rows) n ≡ true
among-stays n known [] some = some
among-stays n known (r ∷ rs) some = among-stays n (placed_by (λ k. k) r.region known) rs (is_among-placed r.region n known some)

each-known : (known : List ℕ) (rows : List Row)
    → AllByRecursion (λ (s : Row). is_among (fold (λ ns (r : Row). placed_by (λ k. k) r.region ns) known rows) s.region ≡ true) rows
each-known known [] = tt
each-known known (r ∷ rs) =
    (among-stays r.region (placed_by (λ k. k) r.region known) rs (is_among-placed_itself r.region known), each-known (placed_by (λ k. k) r.region known) rs)

-- the region of each row is among the regions
pub region-among : (rows : List Row) → AllByRecursion (λ (s : Row). is_among (regions rows) s.region ≡ true) rows
region-among rows = each-known [] rows

-- the same of two lists, and of rows in another region
has_member-append : (j : ℕ) (xs ys : List Row) → (has_member j xs ≡ true) ⊎ (has_member j ys ≡ true) → has_member j (xs ++ ys) ≡ true
has_member-append j [] ys (inl some) = absurd (cc)
has_member-append j [] ys (inr some) = some
has_member-append j (x ∷ xs) ys (inr some) = or_right (x.member.id == j) (has_member j (xs ++ ys)) (has_member-append j xs ys (inr some))
has_member-append j (x ∷ xs) ys (inl some) = elim (or_cases (x.member.id == j) (has_member j xs) some) [
  | inl here ↦ or_left (x.member.id == j) (has_member j (xs ++ ys)) here
  | inr later ↦ or_right (x.member.id == j) (has_member j (xs ++ ys)) (has_member-append j xs ys (inl later))
]

has_member-moved : (j region : ℕ) (rows : List Row) → has_member j rows ≡ true → has_member j (map (moved_to region) rows) ≡ true
has_member-moved j region [] some = some
has_member-moved j region (r ∷ rs) some = elim (or_cases (r.member.id == j) (has_member j rs) some) [
  | inl here ↦ or_left (r.member.id == j) (has_member j (map (moved_to region) rs)) here
  | inr later ↦ or_right (r.member.id == j) (has_member j (map (moved_to region) rs)) (has_member-moved j region rs later)
]

-- a number that is among the first is among both
among-append : (n : ℕ) (xs ys : List ℕ) → is_among xs n ≡ true → is_among (xs ++ ys) n ≡ true
among-append n [] ys some = absurd (cc)
among-append n (x ∷ xs) ys some = elim (or_cases (x == n) (is_among xs n) some) [
  | inl here ↦ or_left (x == n) (is_among (xs ++ ys) n) here
  | inr later ↦ or_right (x == n) (is_among (xs ++ ys) n) (among-append n xs ys later)
]

-- and so is the last
among-last : (n : ℕ) (xs : List ℕ) → is_among (xs ++ n ∷ []) n ≡ true
among-last n [] = or_left (n == n) false (eq-eqb n n refl)
among-last n (x ∷ xs) = or_right (x == n) (is_among (xs ++ n ∷ []) n) (among-last n xs)

-- the rows of a cut are in order: those that it moves come last
pub in_order-cut : (region : ℕ) (cut : Cut) (rows : List Row) → IsInOrder rows → AllByRecursion (λ (r : Row). r.region < cut.upper) rows
    → IsInOrder (cut_rows region cut rows)
in_order-cut region cut rows up below =
    let off : Row → Bool = is_cut_off region cut.split in
    let kept = filter (λ r. not (off r)) rows in
    let moved = filter off rows in
    let R : Row → Row → Type 0 = λ r s. is_before r s ≡ true in
    let same = ByRecursion-weaken (λ r. off r ≡ true) (λ r. r.region ≡ region)
    (λ r e. eqb-true r.region region (and_parts (r.region == region) (is_upper cut.split r.member) e).0) moved (ByRecursion-passes off rows) in
    let later = IsPairwise-map (moved_to cut.upper) R moved
    (IsPairwise-under (λ r. r.region ≡ region) R (λ r s. is_before (moved_to cut.upper r) (moved_to cut.upper s) ≡ true)
    (λ r s first second before. before-from_id (moved_to cut.upper r) (moved_to cut.upper s) refl (before-id r s (first ∙ sym second) before)) moved same
    (IsPairwise-filter R off rows up)) in
    IsPairwise-append R kept (map (moved_to cut.upper) moved) (IsPairwise-filter R (λ r. not (off r)) rows up) later
    (ByRecursion-weaken (λ (r : Row). r.region < cut.upper) (λ r. AllByRecursion (R r) (map (moved_to cut.upper) moved))
    (λ r lt. ByRecursion-map (moved_to cut.upper) (R r) moved
    (always (λ s. R r (moved_to cut.upper s)) (λ s. before-region r (moved_to cut.upper s) lt) moved)) kept
    (All-of_filter (λ (r : Row). r.region < cut.upper) (λ r. not (off r)) rows below))

-- their ids are those that were
distinct-cut : (region : ℕ) (cut : Cut) (rows : List Row) → HasDistinctIds rows → HasDistinctIds (cut_rows region cut rows)
distinct-cut region cut rows distinct =
    let off : Row → Bool = is_cut_off region cut.split in
    let kept = filter (λ r. not (off r)) rows in
    let moved = filter off rows in
    let R : Row → Row → Type 0 = λ r s. r.member.id ≢ s.member.id in
    let apart = apart-swap kept moved (apart-parts off rows distinct) in
    let each = pairwise-from_distinct (λ (r : Row). r.member.id) rows distinct in
    distinct-from_pairwise (λ (r : Row). r.member.id) (cut_rows region cut rows)
    (IsPairwise-append R kept (map (moved_to cut.upper) moved) (IsPairwise-filter R (λ r. not (off r)) rows each)
    (IsPairwise-map (moved_to cut.upper) R moved (IsPairwise-filter R off rows each))
    (ByRecursion-weaken (λ (s : Row). AllByRecursion (λ (r : Row). r.member.id ≢ s.member.id) moved)
    (λ s. AllByRecursion (R s) (map (moved_to cut.upper) moved))
    (λ s each. ByRecursion-map (moved_to cut.upper) (R s) moved
    (ByRecursion-weaken (λ (r : Row). r.member.id ≢ s.member.id) (λ r. R s (moved_to cut.upper r)) (λ r ne e. ne (sym e)) moved each)) kept apart))

-- what holds of each row, and of each in the new region
pub all-cut : (P : Row → Type 0) (region : ℕ) (cut : Cut) (rows : List Row) → AllByRecursion P rows → AllByRecursion (λ r. P (moved_to cut.upper r)) rows
    → AllByRecursion P (cut_rows region cut rows)
all-cut P region cut rows all moved =
    let off : Row → Bool = is_cut_off region cut.split in
    ByRecursion-append P (filter (λ r. not (off r)) rows) (map (moved_to cut.upper) (filter off rows)) (All-of_filter P (λ r. not (off r)) rows all)
    (ByRecursion-map (moved_to cut.upper) P (filter off rows) (All-of_filter (λ r. P (moved_to cut.upper r)) off rows moved))

length-cut : (region : ℕ) (cut : Cut) (rows : List Row) → length (cut_rows region cut rows) ≡ length rows
length-cut region cut rows =
    let off : Row → Bool = is_cut_off region cut.split in
    let kept = filter (λ r. not (off r)) rows in
    let moved = filter off rows in
    let both = length-filter_both off (λ r. not (off r)) (λ r. refl) rows in
    omega (arith, length-append kept (map (moved_to cut.upper) moved), length-map moved (moved_to cut.upper), both)

has_member-cut : (j region : ℕ) (cut : Cut) (rows : List Row) → has_member j rows ≡ true → has_member j (cut_rows region cut rows) ≡ true
has_member-cut j region cut rows some =
    let off : Row → Bool = is_cut_off region cut.split in
    has_member-append j (filter (λ r. not (off r)) rows) (map (moved_to cut.upper) (filter off rows)) (elim (in_parts off j rows some) [
      | inl out ↦ inl out
      | inr inn ↦ inr (has_member-moved j cut.upper (filter off rows) inn)
    ])

-- with a cut there is one region more, where there may be one
parted-group : (g : GroupState) (region : ℕ) (split : Split) → IsGroup g → g.next_region ≤ last_number → length (regions g.rows) < most_regions
    → IsGroup (cut_group (Some (region, record { split = split; upper = g.next_region })) g)
parted-group g region split is left few =
    let was = is.staffed in
    let cut : Cut = record { split = split; upper = g.next_region } in
    let known = regions g.rows in
    let more = known ++ g.next_region ∷ [] in
    let long = length-cut region cut g.rows in
    let among = all-cut (λ (r : Row). is_among more r.region ≡ true) region cut g.rows
    (ByRecursion-weaken (λ (r : Row). is_among known r.region ≡ true) (λ (r : Row). is_among more r.region ≡ true)
    (λ r e. among-append r.region known (g.next_region ∷ []) e) g.rows (region-among g.rows))
    (always (λ (r : Row). is_among more g.next_region ≡ true) (λ r. among-last g.next_region known) g.rows) in
    let regions_le = length-regions-le more (cut_rows region cut g.rows) among in
    record {
      staffed = record {
        in_order = in_order-cut region cut g.rows was.in_order is.numbered;
        distinct = distinct-cut region cut g.rows was.distinct;
        allowed = all-cut IsRow region cut g.rows was.allowed
            (ByRecursion-weaken IsRow (λ r. IsRow (moved_to g.next_region r)) (λ r row. record {
              region = (omega arith, left);
              member = row.member;
              seq = row.seq;
            }) g.rows was.allowed);
        retired_ascend = was.retired_ascend;
        none_retired = all-cut (λ (r : Row). is_among g.retired r.member.id ≡ false) region cut g.rows was.none_retired was.none_retired;
        few_members = omega (arith, long, was.few_members);
        few_together = omega (arith, long, was.few_together);
        leader_there = has_member-cut g.leader region cut g.rows was.leader_there;
      };
      numbered = all-cut (λ (r : Row). r.region < g.next_region + 1) region cut g.rows
          (ByRecursion-weaken (λ (r : Row). r.region < g.next_region) (λ (r : Row). r.region < g.next_region + 1) (λ r lt. omega arith) g.rows is.numbered)
          (always (λ (r : Row). g.next_region < g.next_region + 1) (λ r. omega arith) g.rows);
      next_number = omega (arith, left);
      few_regions = omega (arith, regions_le, length-append known (g.next_region ∷ []));
    }

-- where a region is to be cut, there may be one region more
room-from_choice : (rows : List Row) (region : ℕ) → region_to_cut rows ≡ Some region → length (regions rows) < most_regions
room-from_choice rows region due =
    elim (cases_Bool (nat_lt (length (region_sums rows)) most_regions)) [
      | inl room ↦ omega (arith, ltb-true (length (region_sums rows)) most_regions room, length-map (regions rows) (sum_in rows))
      | inr full ↦ absurd (let none : region_to_cut rows ≡ None = rw full refl in cc)
    ]

-- and a number for it, where the numbers aren't spent
number-from_choice : (g : GroupState) (region : ℕ) → region_to_cut g.rows ≡ Some region → is_spent g ≡ false → g.next_region ≤ last_number
number-from_choice g region due left =
    let known : is_spent g ≡ nat_lt last_number g.next_region = rw due refl in
    ltb-false last_number g.next_region (sym known ∙ left)

-- the group after the cut that is due, if any, is a group
pub cut-group : (g : GroupState) → IsGroup g → is_spent g ≡ false → IsGroup (cut_group (cut_due g.next_region g.rows) g)
cut-group g is left = go (region_to_cut g.rows) refl
  where
    split : (region : ℕ) → region_to_cut g.rows ≡ Some region → (s : Option Split)
        → IsGroup (cut_group (option_map {U = ℕ × Cut} (λ t. (region, record { split = t; upper = g.next_region })) s) g)
    split region due None = is
    split region due (Some s) = parted-group g region s is (number-from_choice g region due left) (room-from_choice g.rows region due)

    go : (o : Option ℕ) → region_to_cut g.rows ≡ o → IsGroup (cut_group (cut_at g.next_region g.rows o) g)
    go None e = is
    go (Some region) e = split region e (middle_split (members_in region g.rows))
