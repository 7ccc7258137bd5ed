-- Rows by rank: the order of the ranks is that of the rows, and each rank has one region and one id.
use Rattle.std.proofs.Common.{◌≡◌, ◌≢◌, ℕ, ◌≤◌, ◌==◌, Bool, true, false, cond, nat_lt, List, [], ◌∷◌}
use Rattle.std.proofs.Common.{Some, refl, sym, ap, ◌∙◌, arith, inl, inr}
use Rattle.std.specs.List.{AllByRecursion, filter}
use Rattle.std.specs.Option.{option_map}
use Rattle.std.proofs.lemmas.Bool.{cases_order, eqb-true, eqb-false, ne_eqb, eq-eqb}
use Rattle.std.proofs.lemmas.Bool.Decides.{nat_tests}
use Rattle.cs_base.specs.Ascending.{at_key, placed_by, without_key}
use Rattle.cs_base.specs.Limits.{last_id}
use Rattle.cs_group.specs.declared.row.Row.{Row}
use Rattle.cs_group.specs.Rank.{rank_at}
use Rattle.cs_group.specs.Rows.{HasDistinctIds, IsRow, is_before, placed, row_of, rows_in, without}
use Rattle.cs_shared.specs.Tree.{is_from_to}
use Rattle.cs_group.proofs.Edits.{without-others}
use Rattle.cs_group.proofs.Lists.{ByRecursion-weaken}

-- the rank of a row
abbrev pub rank_of : Row → ℕ
rank_of r = rank_at r.region r.member.id

-- what a row's id is, with 32 bits
abbrev pub HasShortId : Row → Type 0
HasShortId r = r.member.id ≤ last_id

pub short-ids : (rows : List Row) → AllByRecursion IsRow rows → AllByRecursion HasShortId rows
short-ids rows allowed = ByRecursion-weaken IsRow HasShortId (λ r is. is.member.id.1) rows allowed

-- a row stands before another where its rank is lower
before-rank : (r s : Row) → HasShortId r → HasShortId s → is_before r s ≡ nat_lt (rank_of r) (rank_of s)
before-rank r s short_r short_s = elim (cases_order r.region s.region) [
  | inl same ↦ grind (arith, nat_tests)
  | inr (inl lt) ↦ grind (arith, nat_tests)
  | inr (inr gt) ↦ grind (arith, nat_tests)
]

-- rows of two ids have two ranks
other-rank : (region id : ℕ) (r : Row) → HasShortId r → id ≤ last_id → r.member.id ≢ id → rank_of r ≢ rank_at region id
other-rank region id r short_r short_id other same = other (omega arith)

-- so a row of a new id is placed by its rank
pub placed-rank : (row : Row) (rows : List Row) → HasShortId row → AllByRecursion HasShortId rows
    → AllByRecursion (λ (s : Row). s.member.id ≢ row.member.id) rows → placed row rows ≡ placed_by rank_of row rows
placed-rank row [] short_row short others = refl
placed-rank row (s ∷ ss) short_row short others =
    let before = before-rank row s short_row short.0 in
    let unlike : (rank_of row == rank_of s) ≡ false =
    ne_eqb (rank_of row) (rank_of s) (λ e. other-rank row.region row.member.id s short.0 short_row others.0 (sym e)) in
    let rest = placed-rank row ss short_row short.1 others.1 in
    rw (before, unlike, rest) refl

-- a row is found by its region and id
pub at_rank : (region id : ℕ) (rows : List Row) → id ≤ last_id → AllByRecursion HasShortId rows
    → option_map (λ (r : Row). r.region) (row_of id rows) ≡ Some region → at_key rank_of (rank_at region id) rows ≡ row_of id rows
at_rank region id [] short_id short found = refl
at_rank region id (r ∷ rs) short_id short found = go (r.member.id == id) refl found (at_rank region id rs short_id short.1)
  where
    go : (b : Bool) → (r.member.id == id) ≡ b → option_map (λ (s : Row). s.region) (cond b (Some r) (row_of id rs)) ≡ Some region
        → (option_map (λ (s : Row). s.region) (row_of id rs) ≡ Some region → at_key rank_of (rank_at region id) rs ≡ row_of id rs)
        → at_key rank_of (rank_at region id) (r ∷ rs) ≡ row_of id (r ∷ rs)
    go true e here rest =
        let is_id : r.member.id ≡ id = eqb-true r.member.id id e in
        let is_region : r.region ≡ region = cc in
        let same : (rank_of r == rank_at region id) ≡ true = eq-eqb (rank_of r) (rank_at region id) (omega arith) in
        rw (e, same) refl
    go false e later rest =
        let unlike : (rank_of r == rank_at region id) ≡ false =
        ne_eqb (rank_of r) (rank_at region id) (other-rank region id r short.0 short_id (eqb-false r.member.id id e)) in
        rw (e, unlike) (rest later)

-- where no row has the id, none has its rank
without-rank_others : (region id : ℕ) (rows : List Row) → id ≤ last_id → AllByRecursion HasShortId rows
    → AllByRecursion (λ (s : Row). s.member.id ≢ id) rows → without_key rank_of (rank_at region id) rows ≡ rows
without-rank_others region id [] short_id short others = refl
without-rank_others region id (r ∷ rs) short_id short others =
    let unlike : (rank_of r == rank_at region id) ≡ false =
    ne_eqb (rank_of r) (rank_at region id) (other-rank region id r short.0 short_id others.0) in
    rw unlike (ap (λ rest. r ∷ rest) (without-rank_others region id rs short_id short.1 others.1))

-- and a row is taken out by its rank
pub without-rank : (row : Row) (rows : List Row) → HasDistinctIds rows → AllByRecursion HasShortId rows → HasShortId row
    → row_of row.member.id rows ≡ Some row → without_key rank_of (rank_of row) rows ≡ without row.member.id rows
without-rank row [] distinct short short_row found = refl
without-rank row (r ∷ rs) distinct short short_row found =
    go (r.member.id == row.member.id) refl found (without-rank row rs distinct.1 short.1 short_row)
  where
    go : (b : Bool) → (r.member.id == row.member.id) ≡ b → cond b (Some r) (row_of row.member.id rs) ≡ Some row
        → (row_of row.member.id rs ≡ Some row → without_key rank_of (rank_of row) rs ≡ without row.member.id rs)
        → without_key rank_of (rank_of row) (r ∷ rs) ≡ without row.member.id (r ∷ rs)
    go true e here rest =
        let is : r ≡ row = cc in
        let others = ByRecursion-weaken (λ (s : Row). r.member.id ≢ s.member.id) (λ (s : Row). s.member.id ≢ row.member.id)
        (λ s ne eq. ne (eqb-true r.member.id row.member.id e ∙ sym eq)) rs distinct.0 in
        let same : (rank_of r == rank_of row) ≡ true = eq-eqb (rank_of r) (rank_of row) (ap rank_of is) in
        rw (same, e) (without-rank_others row.region row.member.id rs short_row short.1 others ∙ sym (without-others row.member.id rs others))
    go false e later rest =
        let unlike : (rank_of r == rank_of row) ≡ false =
        ne_eqb (rank_of r) (rank_of row) (other-rank row.region row.member.id r short.0 short_row (eqb-false r.member.id row.member.id e)) in
        rw (unlike, e) (ap (λ kept. r ∷ kept) (rest later))

-- the rows of a region are those of its ranks
in-region : (region : ℕ) (r : Row) → HasShortId r → is_from_to rank_of (rank_at region 0) (rank_at region last_id) r ≡ (r.region == region)
in-region region r short = elim (cases_order r.region region) [
  | inl same ↦ grind (arith, nat_tests)
  | inr (inl lt) ↦ grind (arith, nat_tests)
  | inr (inr gt) ↦ grind (arith, nat_tests)
]

pub rows_in-ranks : (region : ℕ) (rows : List Row) → AllByRecursion HasShortId rows
    → filter (is_from_to rank_of (rank_at region 0) (rank_at region last_id)) rows ≡ rows_in region rows
rows_in-ranks region [] short = refl
rows_in-ranks region (r ∷ rs) short =
    let same = in-region region r short.0 in
    let rest = rows_in-ranks region rs short.1 in
    ap (λ b. cond b (r ∷ filter (is_from_to rank_of (rank_at region 0) (rank_at region last_id)) rs)
    (filter (is_from_to rank_of (rank_at region 0) (rank_at region last_id)) rs)) same
    ∙ ap (λ kept. cond (r.region == region) (r ∷ kept) kept) rest
