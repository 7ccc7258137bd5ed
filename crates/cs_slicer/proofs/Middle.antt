-- The rows before the cut: they are in order, with distinct ids, and their regions are among those that were.
use Rattle.std.proofs.Common.{◌≡◌, ◌≢◌, ℕ, ◌<◌, ◌==◌, Bool, true, false, not, if◌then◌else◌, List, [], ◌∷◌, length, Option, Some, None}
use Rattle.std.proofs.Common.{refl, sym, ap, subst, ◌∙◌, arith}
use Rattle.std.specs.List.{AllByRecursion, filter, list_all}
use Rattle.std.specs.Ordering.{is_le}
use Rattle.std.specs.Option.{option_map}
use Rattle.std.proofs.lemmas.Bool.{cond_both, eqb-true, eqb-false, false_from_ne_true, ne_eqb, not-true, not_from_false}
use Rattle.std.proofs.lemmas.List.{length-map}
use Rattle.std.proofs.lemmas.Option.{same_Some}
use Rattle.cs_base.proofs.Ascending.{All-of_filter}
use Rattle.cs_base.specs.Axes.{Axes}
use Rattle.cs_base.specs.Total.{Total}
use Rattle.cs_base.specs.declared.change.Change.{Change}
use Rattle.cs_base.specs.declared.change.Change.TheVariants.{Join, Move, Leave}
use Rattle.cs_near.specs.Nearest.{nearest, nearness_cmp}
use Rattle.cs_near.specs.declared.keyed.RegionSum.{RegionSum}
use Rattle.cs_near.proofs.Found.{find-holds}
use Rattle.cs_group.specs.declared.row.Row.{Row}
use Rattle.cs_group.specs.declared.next.Turn.{Turn}
use Rattle.cs_group.specs.declared.verdict.Verdict.TheVariants.{Accepted, Retired, Present, Full}
use Rattle.cs_group.specs.Cut.{cut_due}
use Rattle.cs_group.specs.Group.{GroupState, IsGroup, is_among}
use Rattle.cs_group.specs.Judging.{accepted, after_change, is_accepted, is_full, item_of, judged, verdict_on, verdicts_on}
use Rattle.cs_group.specs.Merge.{after_merge, merge_due, merge_into, merged, others, small_region}
use Rattle.cs_group.specs.Next.{before_cut, cut_group, is_spent, next_turn, with_accepted, with_all_accepted}
use Rattle.cs_group.specs.Place.{place_of, region_sums, sum_in}
use Rattle.cs_group.specs.Rows.{IsInOrder, HasDistinctIds, has_member, is_before, members_in, moved_to, placed, regions, row_of}
use Rattle.cs_group.specs.Rows.{rows_in, rows_outside, without}
use Rattle.cs_group.specs.Taking.{joined_row, moved_row, with_change, with_item, with_mover, without_leaver}
use Rattle.cs_group.proofs.Again.{taken-later}
use Rattle.cs_group.proofs.Cutting.{region-among}
use Rattle.cs_group.proofs.Known.{among-holds}
use Rattle.cs_group.proofs.Lists.{ByRecursion-weaken, ByRecursion-both, ByRecursion-map, ByRecursion-passes, IsPairwise-filter, IsDistinctBy-filter}
use Rattle.cs_group.proofs.ListTests.{any-filter, each_fails}
use Rattle.cs_group.proofs.Merging.{AreApart, apart-parts, placed_all}
use Rattle.cs_group.proofs.Order.{ByRecursion-placed, IsById-members_in, IsInOrder-placed, HasDistinctIds-placed}
use Rattle.cs_group.proofs.Places.{place-holds}
use Rattle.cs_group.proofs.Regions.{ByRecursion-regions, no_region_empty}
use Rattle.cs_group.proofs.Taking.{others-without}
use Rattle.cs_roll.specs.Roll.{IsById}
use Rattle.cs_slicer.specs.Turn.{IsTurnOf, middle_rows}
use Rattle.cs_slicer.proofs.Summaries.{regions-listed}
use Rattle.cs_slicer.proofs.Regions.{among-has_row, has_row, has_row-none, has_row-placed}

-- rows in order with distinct ids, whose regions are among the known ones
pub record AreSpread (known : List ℕ) (rows : List Row) : Type 0 where
  pub in_order : IsInOrder rows
  pub distinct : HasDistinctIds rows
  pub in_known : AllByRecursion (λ (r : Row). is_among known r.region ≡ true) rows

-- what a join tells that is accepted
not_present : (a b c : Bool) → is_accepted (if a then Retired else (if b then Present else (if c then Full else Accepted))) ≡ true → b ≡ false
not_present true b c e = absurd (cc)
not_present false true c e = absurd (cc)
not_present false false true e = absurd (cc)
not_present false false false e = refl

-- one more row is apart from those that are to come
apart-placed : (r : Row) (rows moved : List Row) → AllByRecursion (λ (s : Row). r.member.id ≢ s.member.id) moved → AreApart rows moved
    → AreApart (placed r rows) moved
apart-placed r rows [] other apart = tt
apart-placed r rows (s ∷ ss) other apart =
    (ByRecursion-placed (λ (t : Row). t.member.id ≢ s.member.id) r rows other.0 apart.0, apart-placed r rows ss other.1 apart.1)

module _ (known : List ℕ) where
  -- those that are kept stay so
  AreSpread-filter : (p : Row → Bool) (rows : List Row) → AreSpread known rows → AreSpread known (filter p rows)
  AreSpread-filter p rows is = record {
    in_order = IsPairwise-filter (λ (r : Row) s. is_before r s ≡ true) p rows is.in_order;
    distinct = IsDistinctBy-filter (λ (r : Row). r.member.id) p rows is.distinct;
    in_known = All-of_filter (λ (r : Row). is_among known r.region ≡ true) p rows is.in_known;
  }

  -- and so they do with a row whose id is new
  AreSpread-placed : (r : Row) (rows : List Row) → AllByRecursion (λ (s : Row). s.member.id ≢ r.member.id) rows → is_among known r.region ≡ true
      → AreSpread known rows → AreSpread known (placed r rows)
  AreSpread-placed r rows new there is = record {
    in_order = IsInOrder-placed r rows is.in_order new;
    distinct = HasDistinctIds-placed r rows is.distinct new;
    in_known = ByRecursion-placed (λ (s : Row). is_among known s.region ≡ true) r rows there is.in_known;
  }

  -- and with several, apart from them
  AreSpread-placed_all : (into : ℕ) → is_among known into ≡ true → (rows moved : List Row) → HasDistinctIds moved → AreApart rows moved
      → AreSpread known rows → AreSpread known (placed_all into rows moved)
  AreSpread-placed_all into there rows [] distinct apart is = is
  AreSpread-placed_all into there rows (r ∷ rs) distinct apart is =
      AreSpread-placed_all into there (placed (moved_to into r) rows) rs distinct.1 (apart-placed (moved_to into r) rows rs distinct.0 apart.1)
      (AreSpread-placed (moved_to into r) rows apart.0 there is)

  -- so a merge into a known region keeps it
  AreSpread-merged : (gone into : ℕ) → is_among known into ≡ true → (rows : List Row) → AreSpread known rows → AreSpread known (merged gone into rows)
  AreSpread-merged gone into there rows is =
      let in_p : Row → Bool = λ (r : Row). r.region == gone in
      AreSpread-placed_all into there (rows_outside gone rows) (rows_in gone rows)
      (IsDistinctBy-filter (λ (r : Row). r.member.id) in_p rows is.distinct) (apart-parts in_p rows is.distinct)
      (AreSpread-filter (λ (r : Row). not (r.region == gone)) rows is)

  module _ (sums : List RegionSum) (places : (at : Axes) → is_among known (place_of sums at) ≡ true) where
    -- a move keeps it
    AreSpread-mover : (g : GroupState) (id seq : ℕ) (at : Axes) (o : Option Row) → row_of id g.rows ≡ o → AreSpread known g.rows
        → AreSpread known (with_mover sums g id seq at o).rows
    AreSpread-mover g id seq at None found is = is
    AreSpread-mover g id seq at (Some row) found is =
        let held = find-holds (λ (r : Row). is_among known r.region ≡ true) (λ (r : Row). r.member.id == id) g.rows row is.in_known found in
        let same : row.member.id ≡ id = eqb-true row.member.id id held.1 in
        let new = subst (λ n. AllByRecursion (λ (s : Row). s.member.id ≢ n) (without id g.rows)) (sym same) (others-without id g.rows) in
        AreSpread-placed (moved_row sums seq at row) (without id g.rows) new (places at)
        (AreSpread-filter (λ (r : Row). not (r.member.id == id)) g.rows is)

    -- each accepted change does
    AreSpread-change : (g : GroupState) (c : Change) → is_accepted (verdict_on g c) ≡ true → AreSpread known g.rows
        → AreSpread known (with_change sums g c).rows
    AreSpread-change g (Join m) e is =
        let absent = not_present (is_among g.retired m.id) (has_member m.id g.rows) (is_full g) e in
        let new = ByRecursion-weaken (λ (s : Row). (s.member.id == m.id) ≡ false) (λ (s : Row). s.member.id ≢ m.id)
        (λ s differs. eqb-false s.member.id m.id differs) g.rows (each_fails (λ (s : Row). s.member.id == m.id) g.rows absent) in
        AreSpread-placed (joined_row sums m) g.rows new (places m.at) is
    AreSpread-change g (Move id seq at) e is = AreSpread-mover g id seq at (row_of id g.rows) refl is
    AreSpread-change g (Leave id) e is = AreSpread-filter (λ (r : Row). not (r.member.id == id)) g.rows is

    -- and a refused one changes nothing
    AreSpread-after : (g : GroupState) (c : Change) → AreSpread known g.rows → AreSpread known (after_change sums g c).rows
    AreSpread-after g c is =
        cond_both (is_accepted (verdict_on g c)) (with_change sums g c) g (λ h. AreSpread known h.rows) (λ e. AreSpread-change g c e is) (λ e. is)

    -- so all changes of an item do
    AreSpread-item : (changes : List Change) (g : GroupState) → AreSpread known g.rows
        → AreSpread known (with_item sums g (accepted (judged sums g changes))).rows
    AreSpread-item [] g is = is
    AreSpread-item (c ∷ cs) g is =
        subst (λ h. AreSpread known h.rows) (taken-later sums g c cs) (AreSpread-item cs (after_change sums g c) (AreSpread-after g c is))

-- a group has a region
pub some_region : (leader : ℕ) (rows : List Row) → has_member leader rows ≡ true → 0 < length (regions rows)
some_region leader [] some = absurd (cc)
some_region leader (r ∷ rs) some = among_some (regions (r ∷ rs)) r.region (region-among (r ∷ rs)).0
  where
    among_some : (ns : List ℕ) (n : ℕ) → is_among ns n ≡ true → 0 < length ns
    among_some [] n e = absurd (cc)
    among_some (m ∷ ms) n e = omega arith

-- each point has its place in a region of the group
place-among : (leader : ℕ) (rows : List Row) → has_member leader rows ≡ true → (at : Axes) → is_among (regions rows) (place_of (region_sums rows) at) ≡ true
place-among leader rows some at =
    let long = length-map (regions rows) (sum_in rows) in
    place-holds (λ n. is_among (regions rows) n ≡ true) (region_sums rows) at (omega (arith, long, some_region leader rows some))
    (ByRecursion-map (sum_in rows) (λ (t : RegionSum). 0 < t.sum.count) (regions rows) (no_region_empty rows))
    (ByRecursion-map (sum_in rows) (λ (t : RegionSum). is_among (regions rows) t.region ≡ true) (regions rows) (regions-listed rows))

-- a merge goes from one region into another
pub record IsMerge (rows : List Row) (gone into : ℕ) : Type 0 where
  pub gone_there : is_among (regions rows) gone ≡ true
  pub into_there : is_among (regions rows) into ≡ true
  pub other : into ≢ gone

-- of a small region, where there is one
merge-tells-small : (rows : List Row) (o : Option RegionSum) (gone into : ℕ) → small_region (region_sums rows) ≡ o
    → merge_into (region_sums rows) o ≡ Some (gone, into) → IsMerge rows gone into
merge-tells-small rows None gone into chosen e = absurd (cc)
merge-tells-small rows (Some small) gone into chosen e = go (nearest key sum small.sum rest) refl e
  where
    sums : List RegionSum
    sums = region_sums rows

    key : RegionSum → ℕ
    key r = r.region

    sum : RegionSum → Total
    sum r = r.sum

    rest : List RegionSum
    rest = others small.region sums

    all : AllByRecursion (λ (t : RegionSum). is_among (regions rows) t.region ≡ true) sums
    all = ByRecursion-map (sum_in rows) (λ (t : RegionSum). is_among (regions rows) t.region ≡ true) (regions rows) (regions-listed rows)

    go : (o : Option RegionSum) → nearest key sum small.sum rest ≡ o
        → option_map {U = ℕ × ℕ} (λ n. (small.region, n)) (option_map (λ (near : RegionSum). near.region) o) ≡ Some (gone, into) → IsMerge rows gone into
    go None found same = absurd (cc)
    go (Some near) found same =
        let pair : (let q : ℕ × ℕ = (small.region, near.region) in q) ≡ (gone, into) = cc in
        let is_gone : small.region ≡ gone = ap (λ (q : ℕ × ℕ). q.0) pair in
        let is_into : near.region ≡ into = ap (λ (q : ℕ × ℕ). q.1) pair in
        let held_small = find-holds (λ (t : RegionSum). is_among (regions rows) t.region ≡ true) _ sums small all chosen in
        let P : RegionSum → Type 0 = λ t. (is_among (regions rows) t.region ≡ true) × (not (t.region == small.region) ≡ true) in
        let both = ByRecursion-both (λ (t : RegionSum). is_among (regions rows) t.region ≡ true) (λ (t : RegionSum). not (t.region == small.region) ≡ true)
        rest (All-of_filter (λ (t : RegionSum). is_among (regions rows) t.region ≡ true) (λ (t : RegionSum). not (t.region == small.region)) sums all)
        (ByRecursion-passes (λ (t : RegionSum). not (t.region == small.region)) sums) in
        let held = find-holds P (λ t. list_all (λ u. is_le (nearness_cmp key sum small.sum t u)) rest) rest near both found in
        record {
          gone_there = subst (λ n. is_among (regions rows) n ≡ true) is_gone held_small.0;
          into_there = subst (λ n. is_among (regions rows) n ≡ true) is_into held.0.0;
          other = λ e. eqb-false near.region small.region (not-true (near.region == small.region) held.0.1) (is_into ∙ (e ∙ sym is_gone));
        }

-- the merge that is due is one
pub merge-tells : (rows : List Row) (gone into : ℕ) → merge_due rows ≡ Some (gone, into) → IsMerge rows gone into
merge-tells rows gone into e = merge-tells-small rows (small_region (region_sums rows)) gone into refl e

-- a merged region has no rows left
none-placed_all : (gone into : ℕ) → into ≢ gone → (rows moved : List Row) → AllByRecursion (λ (r : Row). (r.region == gone) ≡ false) rows
    → AllByRecursion (λ (r : Row). (r.region == gone) ≡ false) (placed_all into rows moved)
none-placed_all gone into other rows [] all = all
none-placed_all gone into other rows (r ∷ rs) all =
    none-placed_all gone into other (placed (moved_to into r) rows) rs
    (ByRecursion-placed (λ (s : Row). (s.region == gone) ≡ false) (moved_to into r) rows (ne_eqb into gone other) all)

-- so the merged region is none
pub merged-none : (gone into : ℕ) (rows : List Row) → into ≢ gone → is_among (regions (merged gone into rows)) gone ≡ false
merged-none gone into rows other =
    among-has_row gone (merged gone into rows)
    ∙ has_row-none gone (merged gone into rows)
    (none-placed_all gone into other (rows_outside gone rows) (rows_in gone rows)
    (ByRecursion-weaken (λ (r : Row). not (r.region == gone) ≡ true) (λ (r : Row). (r.region == gone) ≡ false) (λ r e. not-true (r.region == gone) e)
    (rows_outside gone rows) (ByRecursion-passes (λ (r : Row). not (r.region == gone)) rows)))

-- and the one that took it in has its own
has_row-placed_all : (n into : ℕ) (rows moved : List Row) → has_row n rows ≡ true → has_row n (placed_all into rows moved) ≡ true
has_row-placed_all n into rows [] some = some
has_row-placed_all n into rows (r ∷ rs) some = has_row-placed_all n into (placed (moved_to into r) rows) rs (has_row-placed n (moved_to into r) rows some)

-- a row of another region is outside
has_row-outside : (n gone : ℕ) (rows : List Row) → n ≢ gone → has_row n rows ≡ true → has_row n (rows_outside gone rows) ≡ true
has_row-outside n gone rows other some =
    any-filter (λ (r : Row). not (r.region == gone)) (λ (r : Row). r.region == n) rows
    (λ r e. not_from_false (r.region == gone) (ne_eqb r.region gone (λ same. other (sym (eqb-true r.region n e) ∙ same)))) some

-- so the region that took it in is one
pub merged-into : (gone into : ℕ) (rows : List Row) → IsMerge rows gone into → is_among (regions (merged gone into rows)) into ≡ true
merged-into gone into rows is =
    among-has_row into (merged gone into rows)
    ∙ has_row-placed_all into into (rows_outside gone rows) (rows_in gone rows)
    (has_row-outside into gone rows is.other (sym (among-has_row into rows) ∙ is.into_there))

-- a change keeps the next region number
number-mover : (sums : List RegionSum) (g : GroupState) (id seq : ℕ) (at : Axes) (o : Option Row) → (with_mover sums g id seq at o).next_region ≡ g.next_region
number-mover sums g id seq at None = refl
number-mover sums g id seq at (Some row) = refl

-- and so does each change of an item
number-item : (sums : List RegionSum) (item : List Change) (g : GroupState) → (with_item sums g item).next_region ≡ g.next_region
number-item sums [] g = refl
number-item sums (Join member ∷ item) g = number-item sums item (with_change sums g (Join member))
number-item sums (Move id seq at ∷ item) g =
    number-item sums item (with_change sums g (Move id seq at)) ∙ number-mover sums g id seq at (row_of id g.rows)
number-item sums (Leave id ∷ item) g = number-item sums item (without_leaver g id)

-- what a turn is made of
pub record IsMade (before : GroupState) (turn : Turn) : Type 0 where
  pub left : is_spent (before_cut before turn.item) ≡ false
  pub group : turn.group ≡ cut_group turn.cut (before_cut before turn.item)
  pub cut : turn.cut ≡ cut_due before.next_region (middle_rows before turn)
  pub merged : turn.merged ≡ merge_due (with_accepted before turn.item).rows

-- a turn is made of these
pub turn-made : (before : GroupState) (turn : Turn) → IsTurnOf before turn → IsMade before turn
turn-made before turn is = go (is_spent (before_cut before turn.item)) refl
  where
    middle : GroupState
    middle = before_cut before turn.item

    go : (b : Bool) → is_spent (before_cut before turn.item) ≡ b → IsMade before turn
    go true e = absurd (let none : next_turn before turn.item ≡ None = rw e refl in let some = is.next in cc)
    go false e =
        let cut = cut_due middle.next_region middle.rows in
        let made : Turn = record {
          group = cut_group cut middle;
          verdicts = verdicts_on before turn.item;
          item = item_of before turn.item;
          merged = merge_due (with_accepted before turn.item).rows;
          cut = cut;
        } in
        let some : next_turn before turn.item ≡ Some made = rw e refl in
        let same : made ≡ with_all_accepted turn = same_Some made (with_all_accepted turn) (sym some ∙ is.next) in
        let number : middle.next_region ≡ before.next_region = number-item (region_sums before.rows) (item_of before turn.item) before in
        let is_cut : turn.cut ≡ cut = sym (ap (λ (t : Turn). t.cut) same) in
        record {
          left = e;
          group = sym (ap (λ (t : Turn). t.group) same) ∙ ap (λ c. cut_group c middle) (sym is_cut);
          cut = is_cut ∙ ap (λ n. cut_due n middle.rows) number;
          merged = sym (ap (λ (t : Turn). t.merged) same);
        }

module _ (before : GroupState) (turn : Turn) (is : IsGroup before) (of : IsTurnOf before turn) where
  -- the rows with the accepted changes
  abbrev pub accepted_rows : List Row
  accepted_rows = (with_accepted before turn.item).rows

  -- they are in order, with distinct ids, in old regions
  spread-accepted : AreSpread (regions before.rows) accepted_rows
  spread-accepted =
      AreSpread-item (regions before.rows) (region_sums before.rows) (place-among before.leader before.rows is.staffed.leader_there) turn.item before
      (record { in_order = is.staffed.in_order; distinct = is.staffed.distinct; in_known = region-among before.rows })

  -- a region with the accepted changes is an old one
  pub old-accepted : (n : ℕ) → is_among (regions accepted_rows) n ≡ true → is_among (regions before.rows) n ≡ true
  old-accepted n there =
      among-holds (λ m. is_among (regions before.rows) m ≡ true) n (regions accepted_rows)
      (ByRecursion-regions (λ m. is_among (regions before.rows) m ≡ true) accepted_rows spread-accepted.in_known) there

  -- the rows before the cut are in order, with distinct ids, in old regions
  pub spread-middle : AreSpread (regions before.rows) (middle_rows before turn)
  spread-middle = go (merge_due accepted_rows) refl
    where
      go : (m : Option (ℕ × ℕ)) → merge_due accepted_rows ≡ m → AreSpread (regions before.rows) (after_merge m accepted_rows)
      go None e = spread-accepted
      go (Some merge) e =
          AreSpread-merged (regions before.rows) merge.0 merge.1 (old-accepted merge.1 (merge-tells accepted_rows merge.0 merge.1 e).into_there) accepted_rows
          spread-accepted

  -- so a region before the cut is an old one
  pub old-middle : (n : ℕ) → is_among (regions (middle_rows before turn)) n ≡ true → is_among (regions before.rows) n ≡ true
  old-middle n there =
      among-holds (λ m. is_among (regions before.rows) m ≡ true) n (regions (middle_rows before turn))
      (ByRecursion-regions (λ m. is_among (regions before.rows) m ≡ true) (middle_rows before turn) spread-middle.in_known) there

  -- the members of each region are a roll
  pub IsById-middle : (n : ℕ) → IsById (members_in n (middle_rows before turn))
  IsById-middle n = IsById-members_in n (middle_rows before turn) spread-middle.in_order

  -- and so they were before the turn
  pub IsById-before : (n : ℕ) → IsById (members_in n before.rows)
  IsById-before n = IsById-members_in n before.rows is.staffed.in_order

  -- an old region has a number that was given
  pub old-numbered : (n : ℕ) → is_among (regions before.rows) n ≡ true → n < before.next_region
  old-numbered n there =
      among-holds (λ m. m < before.next_region) n (regions before.rows)
      (ByRecursion-regions (λ m. m < before.next_region) before.rows is.numbered) there

  -- the number of the next region isn't among them
  pub next-not_old : is_among (regions before.rows) before.next_region ≡ false
  next-not_old =
      false_from_ne_true (is_among (regions before.rows) before.next_region)
      (λ there. let lt = old-numbered before.next_region there in omega (arith, lt))

  -- nor among those before the cut
  pub next-not_middle : is_among (regions (middle_rows before turn)) before.next_region ≡ false
  next-not_middle =
      false_from_ne_true (is_among (regions (middle_rows before turn)) before.next_region)
      (λ there. let lt = old-numbered before.next_region (old-middle before.next_region there) in omega (arith, lt))

  -- a merge goes from an old region into another, which is there before the cut, as the merged one isn't
  pub record IsMergeOf (gone into : ℕ) : Type 0 where
    pub gone_old : is_among (regions before.rows) gone ≡ true
    pub into_there : is_among (regions (middle_rows before turn)) into ≡ true
    pub gone_away : is_among (regions (middle_rows before turn)) gone ≡ false
    pub other : into ≢ gone

  -- the turn's merge is one
  pub merge-known : (gone into : ℕ) → turn.merged ≡ Some (gone, into) → IsMergeOf gone into
  merge-known gone into e =
      let due : merge_due accepted_rows ≡ Some (gone, into) = sym (turn-made before turn of).merged ∙ e in
      let tells = merge-tells accepted_rows gone into due in
      let rows : middle_rows before turn ≡ merged gone into accepted_rows = ap (λ m. after_merge m accepted_rows) due in
      record {
        gone_old = old-accepted gone tells.gone_there;
        into_there = rw rows (merged-into gone into accepted_rows tells);
        gone_away = rw rows (merged-none gone into accepted_rows tells.other);
        other = tells.other;
      }
