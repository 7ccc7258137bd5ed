-- Rows that are taken out together, and placed anew one by one: a merge, a cut, and rows in order from none on.
use Rattle.std.proofs.Common.{◌≡◌, ◌≢◌, ℕ, ◌+◌, ◌<◌, ◌≤◌, ◌==◌, Bool, true, false, not, List, [], ◌∷◌, ◌++◌, length, map}
use Rattle.std.proofs.Common.{refl, sym, ap, subst, ◌∙◌, arith, append_assoc, append-nil}
use Rattle.std.specs.List.{AllByRecursion, filter, fold}
use Rattle.std.proofs.lemmas.Bool.{and_parts, ne_eqb}
use Rattle.std.proofs.lemmas.Bool.Decides.{nat_tests}
use Rattle.std.proofs.lemmas.List.{length-map}
use Rattle.std.proofs.lemmas.List.Filters.{length-filter_both}
use Rattle.std.proofs.lemmas.List.Folds.{fold-map}
use Rattle.cs_base.specs.Split.{is_upper}
use Rattle.cs_base.specs.declared.split.Cut.{Cut}
use Rattle.cs_group.specs.declared.row.Row.{Row}
use Rattle.cs_group.specs.Cut.{cut_rows, is_cut_off}
use Rattle.cs_group.specs.Merge.{merged}
use Rattle.cs_group.specs.Rows.{IsInOrder, HasDistinctIds, is_before, members_in, moved_to, placed, rows_in, rows_outside, without}
use Rattle.cs_group.specs.Table.{with_row, without_row}
use Rattle.cs_group.proofs.Cutting.{always, in_order-cut}
use Rattle.cs_group.proofs.Edits.{length-without-le, without-others}
use Rattle.cs_group.proofs.Lists.{ByRecursion-map, ByRecursion-weaken, IsPairwise-map, distinct-from_pairwise, pairwise-from_distinct}
use Rattle.cs_group.proofs.Lists.{IsDistinctBy-filter}
use Rattle.cs_group.proofs.Merging.{AreApart, apart-parts, apart-placed}
use Rattle.cs_group.proofs.Order.{length-placed}
use Rattle.cs_base.proofs.Ascending.{All-of_filter}

-- ---- taken out together
-- a row whose id isn't among theirs stays in front
kept-first : (r : Row) (rows ms : List Row) → AllByRecursion (λ (m : Row). r.member.id ≢ m.member.id) ms
    → fold without_row (r ∷ rows) ms ≡ r ∷ fold without_row rows ms
kept-first r rows [] others = refl
kept-first r rows (m ∷ ms) others =
    let other : (r.member.id == m.member.id) ≡ false = ne_eqb r.member.id m.member.id others.0 in
    let stays : without m.member.id (r ∷ rows) ≡ r ∷ without m.member.id rows = rw other refl in
    ap (λ rest. fold without_row rest ms) stays ∙ kept-first r (without m.member.id rows) ms others.1

-- without the rows that pass a test those are left that fail it
pub without-passed : (p : Row → Bool) (rows : List Row) → HasDistinctIds rows
    → fold without_row rows (filter p rows) ≡ filter (λ (r : Row). not (p r)) rows
without-passed p [] distinct = refl
without-passed p (r ∷ rs) distinct = go (p r) refl (without-passed p rs distinct.1)
  where
    go : (b : Bool) → p r ≡ b → fold without_row rs (filter p rs) ≡ filter (λ (s : Row). not (p s)) rs
        → fold without_row (r ∷ rs) (filter p (r ∷ rs)) ≡ filter (λ (s : Row). not (p s)) (r ∷ rs)
    go true e rest =
        let same : (r.member.id == r.member.id) ≡ true = grind (arith, nat_tests) in
        let others = ByRecursion-weaken (λ (s : Row). r.member.id ≢ s.member.id) (λ (s : Row). s.member.id ≢ r.member.id)
        (λ s ne eq. ne (sym eq)) rs distinct.0 in
        let gone : without r.member.id (r ∷ rs) ≡ rs = (rw same (without-others r.member.id rs others)) in
        let passed : filter p (r ∷ rs) ≡ r ∷ filter p rs = rw e refl in
        let failed : filter (λ (s : Row). not (p s)) (r ∷ rs) ≡ filter (λ (s : Row). not (p s)) rs = rw e refl in
        ap (fold without_row (r ∷ rs)) passed ∙ (ap (λ left. fold without_row left (filter p rs)) gone ∙ (rest ∙ sym failed))
    go false e rest =
        let passed : filter p (r ∷ rs) ≡ filter p rs = rw e refl in
        let failed : filter (λ (s : Row). not (p s)) (r ∷ rs) ≡ r ∷ filter (λ (s : Row). not (p s)) rs = rw e refl in
        ap (fold without_row (r ∷ rs)) passed
        ∙ (kept-first r rs (filter p rs) (All-of_filter (λ (s : Row). r.member.id ≢ s.member.id) p rs distinct.0)
        ∙ (ap (λ left. r ∷ left) rest ∙ sym failed))

-- what passes the stronger of two tests is found among what passes the weaker
pub filter-inner : {T : Type 0} (p q : T → Bool) → ((x : T) → p x ≡ true → q x ≡ true) → (xs : List T) → filter p (filter q xs) ≡ filter p xs
filter-inner p q gives [] = refl
filter-inner p q gives (x ∷ xs) = go (q x) refl (p x) refl (filter-inner p q gives xs)
  where
    go : (b : Bool) → q x ≡ b → (c : Bool) → p x ≡ c → filter p (filter q xs) ≡ filter p xs → filter p (filter q (x ∷ xs)) ≡ filter p (x ∷ xs)
    go true e true f rest = rw (e, f) (ap (λ ys. x ∷ ys) rest)
    go true e false f rest = rw (e, f) rest
    go false e true f rest = absurd (let g = gives x f in cc)
    go false e false f rest = rw (e, f) rest

-- ---- placed one by one
-- rows of new ids give way to none
pub placed-new : (rows moved : List Row) → AreApart rows moved → HasDistinctIds moved
    → fold with_row rows moved ≡ fold (λ so_far (r : Row). placed r so_far) rows moved
placed-new rows [] apart distinct = refl
placed-new rows (m ∷ ms) apart distinct =
    ap (λ left. fold with_row (placed m left) ms) (without-others m.member.id rows apart.0)
    ∙ placed-new (placed m rows) ms (apart-placed m rows ms distinct.0 apart.1) distinct.1

-- a row that each stands before comes last
placed-last : (r : Row) (rows : List Row) → AllByRecursion (λ (s : Row). is_before s r ≡ true) rows → placed r rows ≡ rows ++ r ∷ []
placed-last r [] before = refl
placed-last r (s ∷ ss) before =
    let later : is_before r s ≡ false = (let first : is_before s r ≡ true = before.0 in grind (arith, nat_tests)) in
    rw later (ap (λ rest. s ∷ rest) (placed-last r ss before.1))

-- the rows in front of one in order are before it
before-one : (rows : List Row) (r : Row) (rest : List Row) → IsInOrder (rows ++ r ∷ rest) → AllByRecursion (λ (s : Row). is_before s r ≡ true) rows
before-one [] r rest up = tt
before-one (s ∷ ss) r rest up = (first ss up.0, before-one ss r rest up.1)
  where
    first : (ts : List Row) → AllByRecursion (λ t. is_before s t ≡ true) (ts ++ r ∷ rest) → is_before s r ≡ true
    first [] all = all.0
    first (t ∷ ts) all = first ts all.1

-- so rows in order are placed one behind the other
pub placed-in_order : (rows moved : List Row) → IsInOrder (rows ++ moved) → fold (λ so_far (r : Row). placed r so_far) rows moved ≡ rows ++ moved
placed-in_order rows [] up = sym (append-nil rows)
placed-in_order rows (m ∷ ms) up =
    let more : rows ++ m ∷ ms ≡ (rows ++ m ∷ []) ++ ms = sym (append_assoc rows (m ∷ []) ms) in
    ap (λ left. fold (λ so_far (r : Row). placed r so_far) left ms) (placed-last m rows (before-one rows m ms up))
    ∙ (placed-in_order (rows ++ m ∷ []) ms (subst IsInOrder more up) ∙ sym more)

-- ---- what comes of it
-- rows of a region are apart from the others in another region, too
module _ (p : Row → Bool) (to : ℕ) (rows : List Row) (distinct : HasDistinctIds rows) where
  apart-moved : AreApart (filter (λ (r : Row). not (p r)) rows) (map (moved_to to) (filter p rows))
  apart-moved =
      ByRecursion-map (moved_to to) (λ (r : Row). AllByRecursion (λ (s : Row). s.member.id ≢ r.member.id) (filter (λ (r : Row). not (p r)) rows))
      (filter p rows) (apart-parts p rows distinct)

  distinct-moved : HasDistinctIds (map (moved_to to) (filter p rows))
  distinct-moved =
      distinct-from_pairwise (λ (r : Row). r.member.id) (map (moved_to to) (filter p rows))
      (IsPairwise-map (moved_to to) (λ (r : Row) s. r.member.id ≢ s.member.id) (filter p rows)
      (pairwise-from_distinct (λ (r : Row). r.member.id) (filter p rows) (IsDistinctBy-filter (λ (r : Row). r.member.id) p rows distinct)))

  pub moved-placed : fold with_row (fold without_row rows (filter p rows)) (map (moved_to to) (filter p rows))
      ≡ fold (λ so_far (r : Row). placed r so_far) (filter (λ (r : Row). not (p r)) rows) (map (moved_to to) (filter p rows))
  moved-placed =
      ap (λ left. fold with_row left (map (moved_to to) (filter p rows))) (without-passed p rows distinct)
      ∙ placed-new (filter (λ (r : Row). not (p r)) rows) (map (moved_to to) (filter p rows)) apart-moved distinct-moved

  -- they are as many as before
  pub moved-few : length (fold without_row rows (filter p rows)) + length (map (moved_to to) (filter p rows)) ≡ length rows
  moved-few =
      let left = ap (λ (xs : List Row). length xs) (without-passed p rows distinct) in
      let parts = length-filter_both p (λ (r : Row). not (p r)) (λ r. refl) rows in
      omega (arith, left, parts, length-map (filter p rows) (moved_to to))

-- the rows of one region, placed in another
pub merged-placed : (gone into : ℕ) (rows : List Row) → HasDistinctIds rows
    → fold with_row (fold without_row rows (rows_in gone rows)) (map (moved_to into) (rows_in gone rows)) ≡ merged gone into rows
merged-placed gone into rows distinct =
    moved-placed (λ (r : Row). r.region == gone) into rows distinct
    ∙ fold-map (λ so_far (r : Row). placed r so_far) (moved_to into) (rows_outside gone rows) (rows_in gone rows)

-- the rows of a cut come last
pub cut-placed : (region : ℕ) (cut : Cut) (rows : List Row) → IsInOrder rows → HasDistinctIds rows → AllByRecursion (λ (r : Row). r.region < cut.upper) rows
    → fold with_row (fold without_row rows (filter (is_cut_off region cut.split) rows)) (map (moved_to cut.upper) (filter (is_cut_off region cut.split) rows))
    ≡ cut_rows region cut rows
cut-placed region cut rows up distinct below =
    moved-placed (is_cut_off region cut.split) cut.upper rows distinct
    ∙ placed-in_order (filter (λ r. not (is_cut_off region cut.split r)) rows) (map (moved_to cut.upper) (filter (is_cut_off region cut.split) rows))
    (in_order-cut region cut rows up below)

-- the rows that a cut moves are in its region
pub cut-inner : (region : ℕ) (cut : Cut) (rows : List Row)
    → filter (is_cut_off region cut.split) (rows_in region rows) ≡ filter (is_cut_off region cut.split) rows
cut-inner region cut rows =
    filter-inner (is_cut_off region cut.split) (λ (r : Row). r.region == region)
    (λ r off. (and_parts (r.region == region) (is_upper cut.split r.member) off).0) rows

-- the members of a region are those of its rows
pub members_in-inner : (region : ℕ) (rows : List Row) → members_in region (rows_in region rows) ≡ members_in region rows
members_in-inner region rows =
    ap (map (λ (r : Row). r.member)) (filter-inner (λ (r : Row). r.region == region) (λ (r : Row). r.region == region) (λ r e. e) rows)

-- from none on rows in order are placed as they stand
pub placed-from_none : (rows : List Row) → IsInOrder rows → HasDistinctIds rows → fold with_row [] rows ≡ rows
placed-from_none rows up distinct =
    placed-new [] rows (always (λ (r : Row). AllByRecursion (λ (s : Row). s.member.id ≢ r.member.id) []) (λ r. tt) rows) distinct ∙ placed-in_order [] rows up

-- each step makes a list at most one row longer
pub length-with_row-le : (rows : List Row) (r : Row) → length (with_row rows r) ≤ length rows + 1
length-with_row-le rows r =
    (let few = length-without-le r.member.id rows in omega (arith, few, length-placed r (without r.member.id rows)))
