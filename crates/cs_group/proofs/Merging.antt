-- A merge keeps what holds of a group while changes are taken in.
use Rattle.std.proofs.Common.{◌≡◌, ◌≢◌, ℕ, ◌+◌, ◌==◌, Bool, true, false, not, List, [], ◌∷◌, length, Option, Some, None}
use Rattle.std.proofs.Common.{refl, sym, ap, subst, ◌∙◌, arith, ◌⊎◌, inl, inr}
use Rattle.std.specs.List.{AllByRecursion, filter, fold, list_all}
use Rattle.std.specs.Ordering.{is_le}
use Rattle.std.specs.Option.{option_map}
use Rattle.std.proofs.lemmas.Bool.{cond_both, or_left, or_right}
use Rattle.std.proofs.lemmas.List.Filters.{length-filter_both}
use Rattle.cs_base.specs.Total.{Total}
use Rattle.cs_near.specs.Nearest.{nearest, nearness_cmp}
use Rattle.cs_near.specs.declared.keyed.RegionSum.{RegionSum}
use Rattle.cs_base.proofs.Ascending.{All-of_filter}
use Rattle.cs_near.proofs.Found.{find-holds}
use Rattle.cs_group.specs.declared.row.Row.{Row}
use Rattle.cs_group.specs.Group.{GroupState, is_among}
use Rattle.cs_group.specs.Merge.{after_merge, merge_due, merge_into, merged, others, small_region}
use Rattle.cs_group.specs.Place.{region_sums, sum_in}
use Rattle.cs_group.specs.Rows.{IsInOrder, IsRow, HasDistinctIds, has_member, is_before, moved_to, placed, regions, rows_in, rows_outside}
use Rattle.cs_group.proofs.Lists.{ByRecursion-weaken, ByRecursion-both, ByRecursion-map, IsPairwise-filter, IsDistinctBy-filter}
use Rattle.cs_group.proofs.Order.{ByRecursion-placed, IsInOrder-placed, HasDistinctIds-placed, length-placed}
use Rattle.cs_group.proofs.Regions.{ByRecursion-regions}
use Rattle.cs_group.proofs.Taking.{IsTaking, has_member-placed, known-region}

-- rows that are placed in a region, one behind the other
abbrev pub placed_all : ℕ → List Row → List Row → List Row
placed_all into rows moved = fold (λ so_far row. placed (moved_to into row) so_far) rows moved

-- each of the one has another id than each of the other
abbrev pub AreApart : List Row → List Row → Type 0
AreApart rows moved = AllByRecursion (λ (r : Row). AllByRecursion (λ (s : Row). s.member.id ≢ r.member.id) rows) moved

-- one more row is apart from those that are to come
pub apart-placed : (r : Row) (rows moved : List Row) → AllByRecursion (λ (s : Row). r.member.id ≢ s.member.id) moved → AreApart rows moved
    → AreApart (placed r rows) moved
apart-placed r rows [] other apart = tt
apart-placed r rows (s ∷ ss) other apart =
    (ByRecursion-placed (λ (t : Row). t.member.id ≢ s.member.id) r rows other.0 apart.0, apart-placed r rows ss other.1 apart.1)

module _ (into : ℕ) where
  in_order-placed_all : (rows moved : List Row) → IsInOrder rows → HasDistinctIds moved → AreApart rows moved → IsInOrder (placed_all into rows moved)
  in_order-placed_all rows [] up distinct apart = up
  in_order-placed_all rows (r ∷ rs) up distinct apart =
      in_order-placed_all (placed (moved_to into r) rows) rs (IsInOrder-placed (moved_to into r) rows up apart.0) distinct.1
      (apart-placed (moved_to into r) rows rs distinct.0 apart.1)

  distinct-placed_all : (rows moved : List Row) → HasDistinctIds rows → HasDistinctIds moved → AreApart rows moved
      → HasDistinctIds (placed_all into rows moved)
  distinct-placed_all rows [] up distinct apart = up
  distinct-placed_all rows (r ∷ rs) up distinct apart =
      distinct-placed_all (placed (moved_to into r) rows) rs (HasDistinctIds-placed (moved_to into r) rows up apart.0) distinct.1
      (apart-placed (moved_to into r) rows rs distinct.0 apart.1)

  pub all-placed_all : (P : Row → Type 0) (rows moved : List Row) → AllByRecursion P rows → AllByRecursion (λ r. P (moved_to into r)) moved
      → AllByRecursion P (placed_all into rows moved)
  all-placed_all P rows [] before all = before
  all-placed_all P rows (r ∷ rs) before all =
      all-placed_all P (placed (moved_to into r) rows) rs (ByRecursion-placed P (moved_to into r) rows all.0 before) all.1

  length-placed_all : (rows moved : List Row) → length (placed_all into rows moved) ≡ length rows + length moved
  length-placed_all rows [] = omega arith
  length-placed_all rows (r ∷ rs) =
      (let rest = length-placed_all (placed (moved_to into r) rows) rs in omega (arith, rest, length-placed (moved_to into r) rows))

  -- members stay
  kept-placed_all : (j : ℕ) (rows moved : List Row) → has_member j rows ≡ true → has_member j (placed_all into rows moved) ≡ true
  kept-placed_all j rows [] some = some
  kept-placed_all j rows (r ∷ rs) some = kept-placed_all j (placed (moved_to into r) rows) rs (has_member-placed j (moved_to into r) rows some)

  -- and those that are placed are there
  has_member-placed_itself : (r : Row) (rows : List Row) (j : ℕ) → (r.member.id == j) ≡ true → has_member j (placed r rows) ≡ true
  has_member-placed_itself r [] j here = or_left (r.member.id == j) false here
  has_member-placed_itself r (s ∷ ss) j here =
      let rest = has_member-placed_itself r ss j here in
      cond_both (is_before r s) (r ∷ s ∷ ss) (s ∷ placed r ss) (λ rows. has_member j rows ≡ true)
      (λ e. or_left (r.member.id == j) (has_member j (s ∷ ss)) here) (λ e. or_right (s.member.id == j) (has_member j (placed r ss)) rest)

  came-placed_all : (j : ℕ) (rows moved : List Row) → has_member j moved ≡ true → has_member j (placed_all into rows moved) ≡ true
  came-placed_all j rows [] some = absurd (cc)
  came-placed_all j rows (r ∷ rs) some =
      go (r.member.id == j) refl (kept-placed_all j (placed (moved_to into r) rows) rs) (came-placed_all j (placed (moved_to into r) rows) rs)
    where
      go : (b : Bool) → (r.member.id == j) ≡ b
          → (has_member j (placed (moved_to into r) rows) ≡ true → has_member j (placed_all into (placed (moved_to into r) rows) rs) ≡ true)
          → (has_member j rs ≡ true → has_member j (placed_all into (placed (moved_to into r) rows) rs) ≡ true)
          → has_member j (placed_all into (placed (moved_to into r) rows) rs) ≡ true
      go true e stay come = stay (has_member-placed_itself (moved_to into r) rows j e)
      go false e stay come = come (let step : has_member j (r ∷ rs) ≡ has_member j rs = rw e refl in sym step ∙ some)

module _ (p : Row → Bool) where
  abbrev pub fails : Row → Bool
  fails r = not (p r)

  -- the rows that pass a test are apart from those that don't
  pub apart-parts : (rows : List Row) → HasDistinctIds rows → AreApart (filter fails rows) (filter p rows)
  apart-parts [] distinct = tt
  apart-parts (r ∷ rs) distinct = go (p r) refl (apart-parts rs distinct.1)
    where
      go : (b : Bool) → p r ≡ b → AreApart (filter fails rs) (filter p rs) → AreApart (filter fails (r ∷ rs)) (filter p (r ∷ rs))
      go true e rest =
          let out : filter fails (r ∷ rs) ≡ filter fails rs = rw e refl in
          let inn : filter p (r ∷ rs) ≡ r ∷ filter p rs = rw e refl in
          rw (out, inn) (
            ByRecursion-weaken (λ (s : Row). r.member.id ≢ s.member.id) (λ (s : Row). s.member.id ≢ r.member.id) (λ s ne same. ne (sym same)) (filter fails rs)
                (All-of_filter (λ (s : Row). r.member.id ≢ s.member.id) fails rs distinct.0),
            rest,
          )
      go false e rest =
          let out : filter fails (r ∷ rs) ≡ r ∷ filter fails rs = rw e refl in
          let inn : filter p (r ∷ rs) ≡ filter p rs = rw e refl in
          rw (out, inn)
          (ByRecursion-both (λ (s : Row). r.member.id ≢ s.member.id)
          (λ (s : Row). AllByRecursion (λ (t : Row). t.member.id ≢ s.member.id) (filter fails rs)) (filter p rs)
          (All-of_filter (λ (s : Row). r.member.id ≢ s.member.id) p rs distinct.0) rest)

  -- a member's row passes or doesn't
  pub in_parts : (j : ℕ) (rows : List Row) → has_member j rows ≡ true → (has_member j (filter fails rows) ≡ true) ⊎ (has_member j (filter p rows) ≡ true)
  in_parts j [] some = absurd (cc)
  in_parts j (r ∷ rs) some = go (r.member.id == j) refl (p r) refl (in_parts j rs)
    where
      go : (b : Bool) → (r.member.id == j) ≡ b → (c : Bool) → p r ≡ c
          → (has_member j rs ≡ true → (has_member j (filter fails rs) ≡ true) ⊎ (has_member j (filter p rs) ≡ true))
          → (has_member j (filter fails (r ∷ rs)) ≡ true) ⊎ (has_member j (filter p (r ∷ rs)) ≡ true)
      go true e true f later = inr (rw f (or_left (r.member.id == j) (has_member j (filter p rs)) e))
      go true e false f later = inl (rw f (or_left (r.member.id == j) (has_member j (filter fails rs)) e))
      go false e c f later = elim (later (let step : has_member j (r ∷ rs) ≡ has_member j rs = rw e refl in sym step ∙ some)) [
        | inl out ↦ inl (cond_both (fails r) (r ∷ filter fails rs) (filter fails rs) (λ rows. has_member j rows ≡ true)
            (λ _. or_right (r.member.id == j) (has_member j (filter fails rs)) out) (λ _. out))
        | inr inn ↦ inr (cond_both (p r) (r ∷ filter p rs) (filter p rs) (λ rows. has_member j rows ≡ true)
            (λ _. or_right (r.member.id == j) (has_member j (filter p rs)) inn) (λ _. inn))
      ]

-- a merge keeps it
pub taking-merged : (known : List ℕ) (g : GroupState) (gone into : ℕ) → is_among known into ≡ true → IsTaking known g
    → IsTaking known (record g { rows = merged gone into g.rows })
taking-merged known g gone into known_into is =
    let was = is.staffed in
    let outside = rows_outside gone g.rows in
    let inside = rows_in gone g.rows in
    let out_p : Row → Bool = λ (r : Row). not (r.region == gone) in
    let in_p : Row → Bool = λ (r : Row). r.region == gone in
    let apart = apart-parts in_p g.rows was.distinct in
    let distinct_in = IsDistinctBy-filter _ in_p g.rows was.distinct in
    let long = length-placed_all into outside inside in
    let parts = length-filter_both in_p out_p (λ r. refl) g.rows in
    let is_region = known-region known g into is known_into in
    record {
      staffed = record {
        in_order = in_order-placed_all into outside inside (IsPairwise-filter _ out_p g.rows was.in_order) distinct_in apart;
        distinct = distinct-placed_all into outside inside (IsDistinctBy-filter _ out_p g.rows was.distinct) distinct_in apart;
        allowed = all-placed_all into IsRow outside inside (All-of_filter IsRow out_p g.rows was.allowed)
            (ByRecursion-weaken IsRow (λ r. IsRow (moved_to into r)) (λ r row. record { region = is_region; member = row.member; seq = row.seq }) inside
            (All-of_filter IsRow in_p g.rows was.allowed));
        retired_ascend = was.retired_ascend;
        none_retired = all-placed_all into (λ (r : Row). is_among g.retired r.member.id ≡ false) outside inside
            (All-of_filter (λ (r : Row). is_among g.retired r.member.id ≡ false) out_p g.rows was.none_retired)
            (All-of_filter (λ (r : Row). is_among g.retired r.member.id ≡ false) in_p g.rows was.none_retired);
        few_members = omega (arith, long, parts, was.few_members);
        few_together = omega (arith, long, parts, was.few_together);
        leader_there = elim (in_parts in_p g.leader g.rows was.leader_there) [
          | inl out ↦ kept-placed_all into g.leader outside inside out
          | inr inn ↦ came-placed_all into g.leader outside inside inn
        ];
      };
      in_known = all-placed_all into (λ (r : Row). is_among known r.region ≡ true) outside inside
          (All-of_filter (λ (r : Row). is_among known r.region ≡ true) out_p g.rows is.in_known)
          (ByRecursion-weaken (λ (r : Row). is_among known r.region ≡ true) (λ (r : Row). is_among known into ≡ true) (λ r e. known_into) inside
          (All-of_filter (λ (r : Row). is_among known r.region ≡ true) in_p g.rows is.in_known));
      numbered = is.numbered;
      next_number = is.next_number;
    }

-- the region that takes another in is one of the group's
into-known : (P : ℕ → Type 0) (sums : List RegionSum) (small : Option RegionSum) (gone into : ℕ) → AllByRecursion (λ (t : RegionSum). P t.region) sums
    → merge_into sums small ≡ Some (gone, into) → P into
into-known P sums None gone into all e = absurd (cc)
into-known P sums (Some small) gone into all e = go (nearest key sum small.sum rest) refl e
  where
    key : RegionSum → ℕ
    key r = r.region

    sum : RegionSum → Total
    sum r = r.sum

    rest : List RegionSum
    rest = others small.region sums

    go : (o : Option RegionSum) → nearest key sum small.sum rest ≡ o
        → option_map {U = ℕ × ℕ} (λ n. (small.region, n)) (option_map (λ (near : RegionSum). near.region) o) ≡ Some (gone, into) → P into
    go None found same = absurd (cc)
    go (Some near) found same =
        let pair : (let q : ℕ × ℕ = (small.region, near.region) in q) ≡ (gone, into) = cc in
        let held = find-holds (λ (t : RegionSum). P t.region) (λ t. list_all (λ u. is_le (nearness_cmp key sum small.sum t u)) rest) rest near
        (All-of_filter (λ (t : RegionSum). P t.region) (λ (t : RegionSum). not (t.region == small.region)) sums all) found in
        subst P (ap (λ (q : ℕ × ℕ). q.1) pair) held.0

-- so what is due keeps it
pub taking-merge : (known : List ℕ) (g : GroupState) → IsTaking known g → IsTaking known (record g { rows = after_merge (merge_due g.rows) g.rows })
taking-merge known g is = go (merge_due g.rows) refl
  where
    go : (m : Option (ℕ × ℕ)) → merge_due g.rows ≡ m → IsTaking known (record g { rows = after_merge m g.rows })
    go None e = is
    go (Some merge) e =
        let sums = region_sums g.rows in
        let all = ByRecursion-map (sum_in g.rows) (λ (t : RegionSum). is_among known t.region ≡ true) (regions g.rows)
        (ByRecursion-regions (λ n. is_among known n ≡ true) g.rows is.in_known) in
        taking-merged known g merge.0 merge.1 (into-known (λ n. is_among known n ≡ true) sums (small_region sums) merge.0 merge.1 all e) is
