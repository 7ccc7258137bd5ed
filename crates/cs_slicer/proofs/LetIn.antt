-- Whom an item lets in is a member of the group of its turn.
use Rattle.std.proofs.Common.{◌≡◌, ◌≢◌, ◌+◌, ◌<◌, ◌≤◌, ◌==◌, ◌||◌, ◌⊎◌, ℕ, Bool, true, false, not, List, [], ◌∷◌, ◌++◌, length, map, take, get_or}
use Rattle.std.proofs.Common.{Option, Some, None, refl, sym, ap, subst, ◌∙◌, inl, inr}
use Rattle.std.specs.List.{AllByRecursion, filter, filter_map, fold}
use Rattle.std.proofs.lemmas.Bool.{cond_both, eq-eqb, eqb-true, false≢true, ne_eqb, not_from_false, or_cases, or_left, or_right}
use Rattle.std.proofs.lemmas.List.{take_more}
use Rattle.std.proofs.lemmas.List.Elements.{filter_map-append}
use Rattle.std.proofs.lemmas.List.Folds.{list_any-append}
use Rattle.std.proofs.lemmas.List.Sums.{fold-append}
use Rattle.cs_base.specs.Ascending.{IsDistinctBy}
use Rattle.cs_base.specs.Axes.{Axes}
use Rattle.cs_base.specs.Changes.{id_of}
use Rattle.cs_base.specs.Limits.{most_changes}
use Rattle.cs_base.specs.declared.change.Change.{Change}
use Rattle.cs_base.specs.declared.change.Change.TheVariants.{Join, Move, Leave}
use Rattle.cs_base.specs.declared.member.Member.{Member}
use Rattle.cs_base.specs.declared.split.Cut.{Cut}
use Rattle.cs_base.proofs.Elements.{All-weaker}
use Rattle.cs_near.specs.declared.keyed.RegionSum.{RegionSum}
use Rattle.cs_roll.specs.Roll.{member_id, with_member}
use Rattle.cs_group.specs.Cut.{after_cut, is_cut_off}
use Rattle.cs_group.specs.Group.{GroupState}
use Rattle.cs_group.specs.Judging.{item_of}
use Rattle.cs_group.specs.Merge.{after_merge, merge_due}
use Rattle.cs_group.specs.Next.{cut_group, merged_group, next_turn}
use Rattle.cs_group.specs.Place.{region_sums}
use Rattle.cs_group.specs.Rows.{has_member, is_before, moved_to, placed, row_of, rows_in, rows_outside, without}
use Rattle.cs_group.specs.Taking.{joined_row, moved_row, with_change, with_item, with_mover}
use Rattle.cs_group.specs.declared.next.Turn.{Turn}
use Rattle.cs_group.specs.declared.row.Row.{Row}
use Rattle.cs_group.proofs.ListTests.{any-filter}
use Rattle.cs_group.proofs.Merging.{in_parts, placed_all}
use Rattle.cs_group.proofs.Taking.{has_member-placed}
use Rattle.cs_slicer.specs.Joiners.{AreMembersOf, joiner_in, joiners}
use Rattle.cs_slicer.specs.Turn.{IsTurnOf}
use Rattle.cs_slicer.proofs.Beside.{All-placed_each}
use Rattle.cs_slicer.proofs.Left.{item-again}
use Rattle.cs_slicer.proofs.Middle.{turn-made}
use Rattle.cs_slicer.proofs.Turns.{IsTurnOf-next}

-- whose row is placed is a member
pub has_member-placed_itself : (r : Row) (rows : List Row) → has_member r.member.id (placed r rows) ≡ true
has_member-placed_itself r [] = or_left (r.member.id == r.member.id) false (eq-eqb r.member.id r.member.id refl)
has_member-placed_itself r (s ∷ ss) =
    let rest = has_member-placed_itself r ss in
    cond_both (is_before r s) (r ∷ s ∷ ss) (s ∷ placed r ss) (λ rows. has_member r.member.id rows ≡ true)
    (λ _. or_left (r.member.id == r.member.id) (has_member r.member.id (s ∷ ss)) (eq-eqb r.member.id r.member.id refl))
    (λ _. or_right (s.member.id == r.member.id) (has_member r.member.id (placed r ss)) rest)

module _ (j : ℕ) where
  -- a member stays where another goes
  has-without : (other : ℕ) (rows : List Row) → other ≢ j → has_member j rows ≡ true → has_member j (without other rows) ≡ true
  has-without other rows differs some =
      any-filter (λ (r : Row). not (r.member.id == other)) (λ (r : Row). r.member.id == j) rows
      (λ r e. not_from_false (r.member.id == other) (ne_eqb r.member.id other (λ same. differs (sym same ∙ eqb-true r.member.id j e)))) some

  module _ (sums : List RegionSum) where
    -- and where another moves
    has-mover : (g : GroupState) (other seq : ℕ) (at : Axes) (o : Option Row) → other ≢ j → has_member j g.rows ≡ true
        → has_member j (with_mover sums g other seq at o).rows ≡ true
    has-mover g other seq at None differs some = some
    has-mover g other seq at (Some row) differs some =
        has_member-placed j (moved_row sums seq at row) (without other g.rows) (has-without other g.rows differs some)

    -- so it does at each change that isn't about it
    has-change : (g : GroupState) (c : Change) → id_of c ≢ j → has_member j g.rows ≡ true → has_member j (with_change sums g c).rows ≡ true
    has-change g (Join m) differs some = has_member-placed j (joined_row sums m) g.rows some
    has-change g (Move other seq at) differs some = has-mover g other seq at (row_of other g.rows) differs some
    has-change g (Leave other) differs some = has-without other g.rows differs some

    has-item : (item : List Change) (g : GroupState) → AllByRecursion (λ c. id_of c ≢ j) item → has_member j g.rows ≡ true
        → has_member j (with_item sums g item).rows ≡ true
    has-item [] g others some = some
    has-item (c ∷ cs) g others some = has-item cs (with_change sums g c) others.1 (has-change g c others.0 some)

  -- it stays among rows that are placed, and among those where they are placed
  has-placed_all : (into : ℕ) (moved rows : List Row) → (has_member j rows ≡ true) ⊎ (has_member j moved ≡ true)
      → has_member j (placed_all into rows moved) ≡ true
  has-placed_all into [] rows (inl some) = some
  has-placed_all into [] rows (inr some) = absurd (false≢true some)
  has-placed_all into (r ∷ rs) rows (inl some) =
      has-placed_all into rs (placed (moved_to into r) rows) (inl (has_member-placed j (moved_to into r) rows some))
  has-placed_all into (r ∷ rs) rows (inr some) = elim (or_cases (r.member.id == j) (has_member j rs) some) [
    | inl here ↦ has-placed_all into rs (placed (moved_to into r) rows)
        (inl (subst (λ id. has_member id (placed (moved_to into r) rows) ≡ true) (eqb-true r.member.id j here)
        (has_member-placed_itself (moved_to into r) rows)))
    | inr later ↦ has-placed_all into rs (placed (moved_to into r) rows) (inr later)
  ]

  -- so it does at a merge
  has-merge : (merge : Option (ℕ × ℕ)) (rows : List Row) → has_member j rows ≡ true → has_member j (after_merge merge rows) ≡ true
  has-merge None rows some = some
  has-merge (Some merge) rows some =
      has-placed_all merge.1 (rows_in merge.0 rows) (rows_outside merge.0 rows) (in_parts (λ (r : Row). r.region == merge.0) j rows some)

  has-moved : (region : ℕ) (rows : List Row) → has_member j (map (moved_to region) rows) ≡ has_member j rows
  has-moved region [] = refl
  has-moved region (r ∷ rs) = ap (λ b. (r.member.id == j) || b) (has-moved region rs)

  -- and at a cut
  has-cut : (cut : Option (ℕ × Cut)) (rows : List Row) → has_member j rows ≡ true → has_member j (after_cut cut rows) ≡ true
  has-cut None rows some = some
  has-cut (Some cut) rows some =
      let off : Row → Bool = is_cut_off cut.0 cut.1.split in
      let kept : List Row = filter (λ r. not (off r)) rows in
      let moved : List Row = map (moved_to cut.1.upper) (filter off rows) in
      let some_part : (has_member j kept || has_member j moved) ≡ true = elim (in_parts off j rows some) [
        | inl out ↦ or_left (has_member j kept) (has_member j moved) out
        | inr inn ↦ or_right (has_member j kept) (has_member j moved) (has-moved cut.1.upper (filter off rows) ∙ inn)
      ] in
      list_any-append (λ (r : Row). r.member.id == j) kept moved ∙ some_part

  -- so it stays where a group is merged and cut
  pub has-parted : (cut : Option (ℕ × Cut)) (g : GroupState) → has_member j g.rows ≡ true
      → has_member j (cut_group cut (merged_group g)).rows ≡ true
  has-parted cut g some = has-cut cut (merged_group g).rows (has-merge (merge_due g.rows) g.rows some)

-- what holds of each that an item lets in holds of the joiners
pub All-joiners : (P : Member → Type 0) (item : List Change) → AllByRecursion P (filter_map joiner_in item) → AllByRecursion P (joiners item)
All-joiners P item all = All-placed_each member_id P [] (filter_map joiner_in item) tt all

module _ (sums : List RegionSum) where
  -- each joiner is there after the item, whose changes are about distinct members
  joins-there : (item : List Change) (g : GroupState) → IsDistinctBy id_of item
      → AllByRecursion (λ (m : Member). has_member m.id (with_item sums g item).rows ≡ true) (filter_map joiner_in item)
  joins-there [] g distinct = tt
  joins-there (Join m ∷ cs) g distinct = (
    has-item m.id sums cs (with_change sums g (Join m))
        (All-weaker (λ c. m.id ≢ id_of c) (λ c. id_of c ≢ m.id) (λ c differs same. differs (sym same)) cs distinct.0)
        (has_member-placed_itself (joined_row sums m) g.rows),
    joins-there cs (with_change sums g (Join m)) distinct.1,
  )
  joins-there (Move id seq at ∷ cs) g distinct = joins-there cs (with_change sums g (Move id seq at)) distinct.1
  joins-there (Leave id ∷ cs) g distinct = joins-there cs (with_change sums g (Leave id)) distinct.1

module _ (before : GroupState) (turn : Turn) (of : IsTurnOf before turn) where
  -- who is there after the item is in the next group
  has-turn : (j : ℕ) → has_member j (with_item (region_sums before.rows) before turn.item).rows ≡ true → has_member j turn.group.rows ≡ true
  has-turn j some =
      let with_all : List Change → GroupState = λ item. with_item (region_sums before.rows) before item in
      let judged = item_of before turn.item in
      let again : has_member j (with_all judged).rows ≡ true = ap (λ item. has_member j (with_all item).rows) (item-again before turn of) ∙ some in
      ap (λ (g : GroupState). has_member j g.rows) (turn-made before turn of).group ∙ has-parted j turn.cut (with_all judged) again

  -- so is each joiner
  pub AreMembersOf-turn : AreMembersOf turn.group (joiners turn.item)
  AreMembersOf-turn =
      let sums = region_sums before.rows in
      All-joiners (λ (m : Member). has_member m.id turn.group.rows ≡ true) turn.item
      (All-weaker (λ (m : Member). has_member m.id (with_item sums before turn.item).rows ≡ true) (λ m. has_member m.id turn.group.rows ≡ true)
      (λ m some. has-turn m.id some) (filter_map joiner_in turn.item) (joins-there sums turn.item before of.distinct))

-- so are the joiners of a next turn
pub AreMembersOf-joiners : (g : GroupState) (changes : List Change) (turn : Turn) → IsDistinctBy id_of changes → length changes ≤ most_changes
    → next_turn g changes ≡ Some turn → AreMembersOf turn.group (joiners turn.item)
AreMembersOf-joiners g changes turn distinct few next = AreMembersOf-turn g turn (IsTurnOf-next g changes turn distinct few next)

-- the joiners with one more change
abbrev pub with_joiner : Option Member → List Member → List Member
with_joiner None roll = roll
with_joiner (Some m) roll = with_member m roll

pub joiners_more : (item : List Change) (i : ℕ) (c : Change) → i < length item → c ≡ get_or item i c
    → joiners (take (i + 1) item) ≡ with_joiner (joiner_in c) (joiners (take i item))
joiners_more item i c lt is =
    let longer : take (i + 1) item ≡ take i item ++ c ∷ [] = rw is (take_more item i c lt) in
    let place : List Member → Member → List Member = λ roll m. with_member m roll in
    let parts : joiners (take i item ++ c ∷ []) ≡ fold place (joiners (take i item)) (filter_map joiner_in (c ∷ [])) =
    ap (fold place []) (filter_map-append joiner_in (take i item) (c ∷ []))
    ∙ fold-append place [] (filter_map joiner_in (take i item)) (filter_map joiner_in (c ∷ [])) in
    ap joiners longer ∙ (parts ∙ one c)
  where
    one : (c : Change) → fold (λ roll m. with_member m roll) (joiners (take i item)) (filter_map joiner_in (c ∷ []))
        ≡ with_joiner (joiner_in c) (joiners (take i item))
    one (Join member) = refl
    one (Move id seq at) = refl
    one (Leave id) = refl
