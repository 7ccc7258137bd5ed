-- At most as many members leave a group, or a region that isn't merged, as the turn's item has changes.
use Rattle.std.proofs.Common.{◌≡◌, ◌≢◌, ℕ, suc, ◌+◌, ◌≤◌, ◌==◌, ◌&&◌, Bool, false, true, not}
use Rattle.std.proofs.Common.{List, [], ◌∷◌, length, get_or, Option, Some, None, refl, sym, ap, ◌∙◌, arith, inl, inr}
use Rattle.std.specs.List.{AllByRecursion, filter, list_any}
use Rattle.std.specs.Option.{is_some}
use Rattle.std.proofs.lemmas.Bool.{and_parts, cond_both, eqb-true, eq-eqb, ne_eqb, not_from_false, or_cases, or_left, or_right}
use Rattle.std.proofs.lemmas.List.{length-map}
use Rattle.std.proofs.lemmas.List.Elements.{Contains-get_or, recursion_from_All}
use Rattle.cs_base.specs.Ascending.{IsDistinctBy}
use Rattle.cs_base.specs.Axes.{Axes}
use Rattle.cs_base.specs.Changes.{id_of}
use Rattle.cs_base.specs.declared.change.Change.{Change}
use Rattle.cs_base.specs.declared.change.Change.TheVariants.{Join, Move, Leave}
use Rattle.cs_base.specs.declared.member.Member.{Member}
use Rattle.cs_near.specs.declared.keyed.RegionSum.{RegionSum}
use Rattle.cs_roll.specs.Roll.{member_id, member_of}
use Rattle.cs_group.specs.declared.row.Row.{Row}
use Rattle.cs_group.specs.declared.next.Turn.{Turn}
use Rattle.cs_group.specs.declared.verdict.Verdict.{Verdict}
use Rattle.cs_group.specs.Group.{GroupState, is_among}
use Rattle.cs_group.specs.Judging.{after_change, is_accepted, item_of, judged}
use Rattle.cs_group.specs.Merge.{after_merge, merge_due}
use Rattle.cs_group.specs.Next.{with_accepted}
use Rattle.cs_group.specs.Place.{region_sums}
use Rattle.cs_group.specs.Rows.{HasDistinctIds, is_before, members_in, moved_to, placed, row_of, rows_in, rows_outside, without}
use Rattle.cs_group.specs.Taking.{joined_row, moved_row, with_change, with_item, with_mover}
use Rattle.cs_group.proofs.Known.{Decides-is_among}
use Rattle.cs_group.proofs.ListTests.{any-filter}
use Rattle.cs_group.proofs.Members.{IsDistinctBy-members_in, length-filter-le}
use Rattle.cs_group.proofs.Merging.{placed_all}
use Rattle.cs_slicer.specs.Head.{left_in}
use Rattle.cs_slicer.specs.Part.{gone_from}
use Rattle.cs_slicer.specs.Turn.{IsTurnOf, middle_rows, taken_in_by}
use Rattle.cs_slicer.proofs.Counts.{find-itself, length-filter-but_one, length-filter-placed, length-filter-weaker, none_kept}
use Rattle.cs_slicer.proofs.Middle.{turn-made}

-- an item is no longer than its changes
length-judged : (sums : List RegionSum) (g : GroupState) (changes : List Change) → length (judged sums g changes) ≡ length changes
length-judged sums g [] = refl
length-judged sums g (c ∷ cs) = ap suc (length-judged sums (after_change sums g c) cs)

pub length-item_of : (g : GroupState) (changes : List Change) → length (item_of g changes) ≤ length changes
length-item_of g changes =
    let verdicts = judged (region_sums g.rows) g changes in
    let kept = filter (λ (v : Change × Verdict). is_accepted v.1) verdicts in
    let all = length-map {B = Change} kept (λ (v : Change × Verdict). v.0) in
    omega (arith, all, length-filter-le (λ (v : Change × Verdict). is_accepted v.1) verdicts, length-judged (region_sums g.rows) g changes)

module _ (sums : List RegionSum) (p : ℕ → Bool) where
  -- a change retires at most one id
  length-retired-mover : (g : GroupState) (id seq : ℕ) (at : Axes) (o : Option Row) → (with_mover sums g id seq at o).retired ≡ g.retired
  length-retired-mover g id seq at None = refl
  length-retired-mover g id seq at (Some row) = refl

  length-retired-change : (g : GroupState) (c : Change) → length (filter p (with_change sums g c).retired) ≤ suc (length (filter p g.retired))
  length-retired-change g (Join m) = omega arith
  length-retired-change g (Move id seq at) =
      omega (arith, ap (λ ns. length (filter p ns)) (length-retired-mover g id seq at (row_of id g.rows)))
  length-retired-change g (Leave id) = length-filter-placed p id g.retired

  -- and an item at most as many as it has changes
  length-retired-item : (item : List Change) (g : GroupState) → length (filter p (with_item sums g item).retired) ≤ length (filter p g.retired) + length item
  length-retired-item [] g = omega arith
  length-retired-item (c ∷ cs) g = omega (arith, length-retired-item cs (with_change sums g c), length-retired-change g c)

-- whether a member is in a region
abbrev pub is_in : ℕ → ℕ → List Row → Bool
is_in id region rows = list_any (λ (r : Row). (r.region == region) && (r.member.id == id)) rows

-- it is where the region has the member
pub is_some-member_of : (id region : ℕ) (rows : List Row) → is_some (member_of id (members_in region rows)) ≡ is_in id region rows
is_some-member_of id region [] = refl
is_some-member_of id region (r ∷ rs) = by_tests (r.region == region) refl (r.member.id == id) refl (is_some-member_of id region rs)
  where
    by_tests : (b : Bool) → (r.region == region) ≡ b → (c : Bool) → (r.member.id == id) ≡ c
        → is_some (member_of id (members_in region rs)) ≡ is_in id region rs
        → is_some (member_of id (members_in region (r ∷ rs))) ≡ is_in id region (r ∷ rs)
    by_tests true e true f rest = rw (e, f) refl
    by_tests true e false f rest = rw (e, f) rest
    by_tests false e c f rest = rw e rest

-- one row more, and what passes still does
any-placed : (q : Row → Bool) (r : Row) (rows : List Row) → list_any q rows ≡ true → list_any q (placed r rows) ≡ true
any-placed q r [] some = absurd (cc)
any-placed q r (s ∷ ss) some =
    let rest = any-placed q r ss in
    cond_both (is_before r s) (r ∷ s ∷ ss) (s ∷ placed r ss) (λ rows. list_any q rows ≡ true)
    (λ _. or_right (q r) (list_any q (s ∷ ss)) some)
    (λ _. elim (or_cases (q s) (list_any q ss) some) [
      | inl here ↦ or_left (q s) (list_any q (placed r ss)) here
      | inr later ↦ or_right (q s) (list_any q (placed r ss)) (rest later)
    ])

module _ (id region : ℕ) where
  abbrev is_its : Row → Bool
  is_its r = (r.region == region) && (r.member.id == id)

  -- a member stays in its region where another goes
  in-without : (other : ℕ) (rows : List Row) → id ≢ other → is_in id region rows ≡ true → is_in id region (without other rows) ≡ true
  in-without other rows differs some =
      any-filter (λ (r : Row). not (r.member.id == other)) is_its rows
      (λ r e. (let parts = and_parts (r.region == region) (r.member.id == id) e in
      not_from_false (r.member.id == other) (ne_eqb r.member.id other (λ same. differs (sym (eqb-true r.member.id id parts.1) ∙ same)))))
      some

  module _ (sums : List RegionSum) where
    -- and where another moves
    in-mover : (g : GroupState) (other seq : ℕ) (at : Axes) (o : Option Row) → id ≢ other → is_in id region g.rows ≡ true
        → is_in id region (with_mover sums g other seq at o).rows ≡ true
    in-mover g other seq at None differs some = some
    in-mover g other seq at (Some row) differs some =
        any-placed is_its (moved_row sums seq at row) (without other g.rows) (in-without other g.rows differs some)

    -- so it does at each change that isn't about it
    in-change : (g : GroupState) (c : Change) → id ≢ id_of c → is_in id region g.rows ≡ true → is_in id region (with_change sums g c).rows ≡ true
    in-change g (Join m) differs some = any-placed is_its (joined_row sums m) g.rows some
    in-change g (Move other seq at) differs some = in-mover g other seq at (row_of other g.rows) differs some
    in-change g (Leave other) differs some = in-without other g.rows differs some

  -- and at the merge of another region
  in-placed_all : (into : ℕ) (rows moved : List Row) → is_in id region rows ≡ true → is_in id region (placed_all into rows moved) ≡ true
  in-placed_all into rows [] some = some
  in-placed_all into rows (r ∷ rs) some =
      in-placed_all into (placed (moved_to into r) rows) rs (any-placed is_its (moved_to into r) rows some)

  in-merge : (m : Option (ℕ × ℕ)) (rows : List Row) → taken_in_by m region ≡ None → is_in id region rows ≡ true → is_in id region (after_merge m rows) ≡ true
  in-merge None rows free some = some
  in-merge (Some m) rows free some =
      in-placed_all m.1 (rows_outside m.0 rows) (rows_in m.0 rows)
      (any-filter (λ (r : Row). not (r.region == m.0)) is_its rows
      (λ r e. (let parts = and_parts (r.region == region) (r.member.id == id) e in
      not_from_false (r.region == m.0) (ne_eqb r.region m.0 (λ same. other (sym same ∙ eqb-true r.region region parts.0)))))
      some)
    where
      other : m.0 ≢ region
      other same = absurd (let taken : taken_in_by (Some m) region ≡ Some m.1 = rw (eq-eqb m.0 region same) refl in cc)

module _ (old : List Member) where
  -- whether a member has gone from a region
  abbrev is_gone : ℕ → List Row → Member → Bool
  is_gone region rows m = not (is_some (member_of m.id (members_in region rows)))

  -- it has not where it is there
  gone-in : (region : ℕ) (rows : List Row) (m : Member) → is_gone region rows m ≡ not (is_in m.id region rows)
  gone-in region rows m = ap (λ b. not b) (is_some-member_of m.id region rows)

  -- one who stays hasn't gone
  gone-stays : (region : ℕ) (rows later : List Row) (m : Member) → (is_in m.id region rows ≡ true → is_in m.id region later ≡ true)
      → is_gone region later m ≡ true → is_gone region rows m ≡ true
  gone-stays region rows later m stays gone = by_there (is_in m.id region rows) refl
    where
      by_there : (b : Bool) → is_in m.id region rows ≡ b → is_gone region rows m ≡ true
      by_there false e = gone-in region rows m ∙ ap (λ b. not b) e
      by_there true e = absurd (let here = gone-in region later m ∙ ap (λ b. not b) (stays e) in cc)

  -- who has gone are so many
  length-gone_from : (new : List Member) → length (gone_from old new) ≡ length (filter (λ (m : Member). not (is_some (member_of m.id new))) old)
  length-gone_from new = length-map (filter (λ (m : Member). not (is_some (member_of m.id new))) old) member_id

  module _ (region : ℕ) where
    -- at each change at most one more goes
    gone-change : (sums : List RegionSum) (g : GroupState) (c : Change) → IsDistinctBy member_id old
        → length (filter (is_gone region (with_change sums g c).rows) old) ≤ suc (length (filter (is_gone region g.rows) old))
    gone-change sums g c distinct =
        length-filter-but_one (is_gone region g.rows) (is_gone region (with_change sums g c).rows) member_id (id_of c) old distinct
        (λ m differs. gone-stays region g.rows (with_change sums g c).rows m (in-change m.id region sums g c differs))

    gone-item : (sums : List RegionSum) (item : List Change) (g : GroupState) → IsDistinctBy member_id old
        → length (filter (is_gone region (with_item sums g item).rows) old) ≤ length (filter (is_gone region g.rows) old) + length item
    gone-item sums [] g distinct = omega arith
    gone-item sums (c ∷ cs) g distinct = omega (arith, gone-item sums cs (with_change sums g c) distinct, gone-change sums g c distinct)

    -- and at the merge of another region none does
    gone-merge : (merge : Option (ℕ × ℕ)) (rows : List Row) → taken_in_by merge region ≡ None
        → length (filter (is_gone region (after_merge merge rows)) old) ≤ length (filter (is_gone region rows) old)
    gone-merge merge rows free =
        length-filter-weaker (is_gone region rows) (is_gone region (after_merge merge rows)) old
        (All-all (λ m. gone-stays region rows (after_merge merge rows) m (in-merge m.id region merge rows free)) old)
      where
        All-all : {P : Member → Type 0} → ((m : Member) → P m) → (ms : List Member) → AllByRecursion P ms
        All-all each [] = tt
        All-all each (m ∷ ms) = (each m, All-all each ms)

-- none has gone before anything changes
gone-none : (region : ℕ) (rows : List Row) → filter (is_gone (members_in region rows) region rows) (members_in region rows) ≡ []
gone-none region rows =
    none_kept (λ (m : Member). is_some (member_of m.id (members_in region rows))) (members_in region rows) (find-itself member_id (members_in region rows))

module _ (before : GroupState) (turn : Turn) (of : IsTurnOf before turn) where
  -- at most as many leave as the item has changes
  pub length-left_in : length (left_in before turn.group) ≤ length turn.item
  length-left_in =
      let was = before.retired in
      let is_new : ℕ → Bool = λ id. not (is_among was id) in
      let sums = region_sums before.rows in
      let item = item_of before turn.item in
      let here : AllByRecursion (λ n. is_among was n ≡ true) was =
      recursion_from_All (λ n. is_among was n ≡ true) was (λ k d lt. (Decides-is_among was (get_or was k d)).1 (Contains-get_or was k d lt)) in
      let none = ap (λ (ns : List ℕ). length ns) (none_kept (is_among was) was here) in
      let retired = ap (λ (g : GroupState). length (filter is_new g.retired)) (turn-made before turn of).group in
      omega (arith, retired, length-retired-item sums is_new item before, none, length-item_of before turn.item)

  -- and at most as many go out of a region that isn't merged
  pub length-gone_from-item : (region : ℕ) → HasDistinctIds before.rows → taken_in_by turn.merged region ≡ None
      → length (gone_from (members_in region before.rows) (members_in region (middle_rows before turn))) ≤ length turn.item
  length-gone_from-item region distinct free =
      let old = members_in region before.rows in
      let sums = region_sums before.rows in
      let item = item_of before turn.item in
      let taken = with_accepted before turn.item in
      let ids = IsDistinctBy-members_in region before.rows distinct in
      let unmerged : taken_in_by (merge_due taken.rows) region ≡ None =
      ap (λ m. taken_in_by m region) (sym (turn-made before turn of).merged) ∙ free in
      let none = ap (λ (ms : List Member). length ms) (gone-none region before.rows) in
      omega (
        arith,
        length-gone_from old (members_in region (middle_rows before turn)),
        gone-merge old region (merge_due taken.rows) taken.rows unmerged,
        gone-item old region sums item before ids,
        none,
        length-item_of before turn.item,
      )
