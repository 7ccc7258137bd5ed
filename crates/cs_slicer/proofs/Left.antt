-- The ids that left by a turn are those that its item retires.
use Rattle.std.proofs.Common.{◌≡◌, ◌≢◌, ℕ, ◌==◌, ◌&&◌, ◌||◌, Bool, false, true, not, if◌then◌else◌}
use Rattle.std.proofs.Common.{List, [], ◌∷◌, Option, Some, None, refl, sym, ap, subst, ◌∙◌, inl, inr}
use Rattle.std.proofs.Math.Bool.{or-false}
use Rattle.std.specs.List.{AllByRecursion, cons_option, filter_map}
use Rattle.std.specs.Option.{option_map, option_to_list}
use Rattle.std.proofs.lemmas.Bool.{eqb-true, ne_eqb, or_cases, or_from, or_parts}
use Rattle.std.proofs.lemmas.Option.{same_Some}
use Rattle.cs_base.specs.Ascending.{IsAscending, placed_by}
use Rattle.cs_base.specs.Axes.{Axes}
use Rattle.cs_base.specs.Ranges.{IsId}
use Rattle.cs_base.proofs.Elements.{All-weaker}
use Rattle.cs_base.proofs.Ascending.{All-of_filter, IsAscendingBy-filter, IsAscendingBy-placed}
use Rattle.cs_base.specs.declared.change.Change.{Change}
use Rattle.cs_base.specs.declared.change.Change.TheVariants.{Join, Move, Leave}
use Rattle.cs_near.specs.declared.keyed.RegionSum.{RegionSum}
use Rattle.cs_near.proofs.Found.{find-holds}
use Rattle.cs_group.specs.declared.row.Row.{Row}
use Rattle.cs_group.specs.declared.next.Turn.{Turn}
use Rattle.cs_group.specs.declared.verdict.Verdict.TheVariants.{Accepted, Retired, Present, Full, Absent, Leader}
use Rattle.cs_group.specs.Group.{GroupState, IsGroup, is_among}
use Rattle.cs_group.specs.Judging.{accepted, is_accepted, is_full, item_of, judged, verdict_on}
use Rattle.cs_group.specs.Next.{before_cut, is_spent, next_turn}
use Rattle.cs_group.specs.Place.{region_sums}
use Rattle.cs_group.specs.Rows.{IsRow, has_member, row_of, without}
use Rattle.cs_group.specs.Taking.{FitsRow, joined_row, moved_row, with_change, with_item, with_mover}
use Rattle.cs_group.proofs.Again.{accepted-first, accepted-rest, after-accepted, after-refused}
use Rattle.cs_group.proofs.Lists.{ByRecursion-both, ByRecursion-weaken}
use Rattle.cs_group.proofs.Order.{ByRecursion-placed}
use Rattle.cs_group.proofs.Taking.{others-without}
use Rattle.cs_slicer.specs.Head.{left_in}
use Rattle.cs_slicer.specs.Leavers.{leaver_of, leavers}
use Rattle.cs_slicer.specs.Turn.{IsTurnOf}
use Rattle.cs_slicer.proofs.Beside.{All-placed_each, IsAscendingBy-placed_each, among-filter}
use Rattle.cs_slicer.proofs.Middle.{turn-made}
use Rattle.cs_slicer.proofs.Numbers.{among-placed_each, same_among}
use Rattle.cs_slicer.proofs.Regions.{among-placed, or-second}

-- the item is the accepted changes again
pub item-again : (before : GroupState) (turn : Turn) → IsTurnOf before turn → item_of before turn.item ≡ turn.item
item-again before turn is = go (is_spent (before_cut before turn.item)) refl
  where
    go : (b : Bool) → is_spent (before_cut before turn.item) ≡ b → item_of before turn.item ≡ turn.item
    go true e = absurd (let none : next_turn before turn.item ≡ None = rw e refl in let some = is.next in cc)
    go false e =
        let item : option_map (λ (t : Turn). t.item) (next_turn before turn.item) ≡ Some (item_of before turn.item) = rw e refl in
        same_Some (item_of before turn.item) turn.item (sym item ∙ ap (option_map (λ (t : Turn). t.item)) is.next)

-- what an accepted join tells
join-tells : (a b c : Bool) → is_accepted (if a then Retired else (if b then Present else (if c then Full else Accepted))) ≡ true → a ≡ false
join-tells true b c e = absurd (cc)
join-tells false b c e = refl

-- and an accepted leave
leave-tells : (a b : Bool) → is_accepted (if a then (if b then Leader else Accepted) else Absent) ≡ true → a ≡ true
leave-tells true b e = refl
leave-tells false b e = absurd (cc)

-- no row's id is retired
abbrev NoneRetired : GroupState → Type 0
NoneRetired g = AllByRecursion (λ (r : Row). is_among g.retired r.member.id ≡ false) g.rows

-- what holds of each row's id holds of an id that is there
there-has : (Q : ℕ → Type 0) (id : ℕ) (rows : List Row) → AllByRecursion (λ (r : Row). Q r.member.id) rows → has_member id rows ≡ true → Q id
there-has Q id [] all some = absurd (cc)
there-has Q id (r ∷ rs) all some = elim (or_cases (r.member.id == id) (has_member id rs) some) [
  | inl here ↦ subst Q (eqb-true r.member.id id here) all.0
  | inr later ↦ there-has Q id rs all.1 later
]

module _ (sums : List RegionSum) where
  -- an accepted change keeps it
  fresh-mover : (g : GroupState) (id seq : ℕ) (at : Axes) (o : Option Row) → row_of id g.rows ≡ o → NoneRetired g → NoneRetired (with_mover sums g id seq at o)
  fresh-mover g id seq at None found none = none
  fresh-mover g id seq at (Some row) found none =
      let P : Row → Type 0 = λ (r : Row). is_among g.retired r.member.id ≡ false in
      let held = find-holds P (λ (r : Row). r.member.id == id) g.rows row none found in
      ByRecursion-placed P (moved_row sums seq at row) (without id g.rows) held.0 (All-of_filter P (λ (r : Row). not (r.member.id == id)) g.rows none)

  fresh-change : (g : GroupState) (c : Change) → is_accepted (verdict_on g c) ≡ true → NoneRetired g → NoneRetired (with_change sums g c)
  fresh-change g (Join m) e none =
      ByRecursion-placed (λ (r : Row). is_among g.retired r.member.id ≡ false) (joined_row sums m) g.rows
      (join-tells (is_among g.retired m.id) (has_member m.id g.rows) (is_full g) e) none
  fresh-change g (Move id seq at) e none = fresh-mover g id seq at (row_of id g.rows) refl none
  fresh-change g (Leave id) e none =
      let stays : Row → Bool = λ (r : Row). not (r.member.id == id) in
      let P : Row → Type 0 = λ (r : Row). is_among g.retired r.member.id ≡ false in
      ByRecursion-weaken (λ (r : Row). (r.member.id ≢ id) × P r) (λ (r : Row). is_among (placed_by (λ n. n) id g.retired) r.member.id ≡ false)
      (λ r both. among-placed id r.member.id g.retired ∙ or_from (id == r.member.id) (is_among g.retired r.member.id)
      (ne_eqb id r.member.id (λ same. both.0 (sym same))) both.1) (without id g.rows)
      (ByRecursion-both (λ (r : Row). r.member.id ≢ id) P (without id g.rows) (others-without id g.rows) (All-of_filter P stays g.rows none))

  -- and the retired ids stay so
  retired-mover : (g : GroupState) (id seq : ℕ) (at : Axes) (o : Option Row) → (with_mover sums g id seq at o).retired ≡ g.retired
  retired-mover g id seq at None = refl
  retired-mover g id seq at (Some row) = refl

  -- or is the leaver's
  retired-change : (g : GroupState) (c : Change) (k : ℕ)
      → is_among (with_change sums g c).retired k ≡ (is_among (option_to_list (leaver_of c)) k || is_among g.retired k)
  retired-change g (Join m) k = refl
  retired-change g (Move id seq at) k = ap (λ ns. is_among ns k) (retired-mover g id seq at (row_of id g.rows))
  retired-change g (Leave id) k = among-placed id k g.retired ∙ ap (λ b. b || is_among g.retired k) (sym (or-false (id == k)))

  -- the leavers of a change and of those behind it
  leavers-first : (c : Change) (cs : List Change) (k : ℕ)
      → is_among (filter_map leaver_of (c ∷ cs)) k ≡ (is_among (option_to_list (leaver_of c)) k || is_among (filter_map leaver_of cs) k)
  leavers-first (Join m) cs k = refl
  leavers-first (Move id seq at) cs k = refl
  leavers-first (Leave id) cs k = ap (λ b. b || is_among (filter_map leaver_of cs) k) (sym (or-false (id == k)))

  -- after an item those are retired that were, and its leavers
  retired-item : (item : List Change) (g : GroupState) (k : ℕ)
      → is_among (with_item sums g item).retired k ≡ (is_among (filter_map leaver_of item) k || is_among g.retired k)
  retired-item [] g k = refl
  retired-item (c ∷ cs) g k =
      let first = is_among (option_to_list (leaver_of c)) k in
      let later = is_among (filter_map leaver_of cs) k in
      retired-item cs (with_change sums g c) k
      ∙ (ap (λ b. later || b) (retired-change g c k)
      ∙ (sym (or-second first later (is_among g.retired k)) ∙ ap (λ b. b || is_among g.retired k) (sym (leavers-first c cs k))))

  -- the retired ids ascend
  retired-ascend : (item : List Change) (g : GroupState) → IsAscending g.retired → IsAscending (with_item sums g item).retired
  retired-ascend [] g up = up
  retired-ascend (Join m ∷ cs) g up = retired-ascend cs (with_change sums g (Join m)) up
  retired-ascend (Move id seq at ∷ cs) g up =
      retired-ascend cs (with_change sums g (Move id seq at)) (subst IsAscending (sym (retired-mover g id seq at (row_of id g.rows))) up)
  retired-ascend (Leave id ∷ cs) g up = retired-ascend cs (with_change sums g (Leave id)) (IsAscendingBy-placed (λ n. n) id g.retired up)

  -- an accepted leaver wasn't retired
  leaver-fresh : (g : GroupState) (c : Change) (k : ℕ) → is_accepted (verdict_on g c) ≡ true → NoneRetired g
      → is_among (option_to_list (leaver_of c)) k ≡ true → is_among g.retired k ≡ false
  leaver-fresh g (Join m) k e none some = absurd (cc)
  leaver-fresh g (Move id seq at) k e none some = absurd (cc)
  leaver-fresh g (Leave id) k e none some =
      let same : id ≡ k = eqb-true id k (sym (or-false (id == k)) ∙ some) in
      let IsFresh : ℕ → Type 0 = λ n. is_among g.retired n ≡ false in
      subst IsFresh same (there-has IsFresh id g.rows none (leave-tells (has_member id g.rows) (id == g.leader) e))

  -- what isn't retired after a change wasn't before
  fresh-before : (g : GroupState) (c : Change) (k : ℕ) → is_among (with_change sums g c).retired k ≡ false → is_among g.retired k ≡ false
  fresh-before g c k e = (or_parts (is_among (option_to_list (leaver_of c)) k) (is_among g.retired k) (sym (retired-change g c k) ∙ e)).1

  -- so none of the accepted changes' leavers was retired
  leavers-fresh : (changes : List Change) (g : GroupState) (k : ℕ) → NoneRetired g
      → is_among (filter_map leaver_of (accepted (judged sums g changes))) k ≡ true → is_among g.retired k ≡ false
  leavers-fresh [] g k none some = absurd (cc)
  leavers-fresh (c ∷ cs) g k none some =
      by_verdict (is_accepted (verdict_on g c)) refl (λ h. leavers-fresh cs h k)
    where
      by_verdict : (b : Bool) → is_accepted (verdict_on g c) ≡ b
          → ((h : GroupState) → NoneRetired h → is_among (filter_map leaver_of (accepted (judged sums h cs))) k ≡ true → is_among h.retired k ≡ false)
          → is_among g.retired k ≡ false
      by_verdict true e later =
          let next = with_change sums g c in
          let item : accepted (judged sums g (c ∷ cs)) ≡ c ∷ accepted (judged sums next cs) =
          accepted-first sums g c cs e ∙ ap (λ h. c ∷ accepted (judged sums h cs)) (after-accepted sums g c e) in
          let some_of = sym (ap (λ cs. is_among (filter_map leaver_of cs) k) item ∙ leavers-first c (accepted (judged sums next cs)) k) ∙ some in
          elim (or_cases (is_among (option_to_list (leaver_of c)) k) (is_among (filter_map leaver_of (accepted (judged sums next cs))) k) some_of) [
            | inl here ↦ leaver-fresh g c k e none here
            | inr behind ↦ fresh-before g c k (later next (fresh-change g c e none) behind)
          ]
      by_verdict false e later =
          let item : accepted (judged sums g (c ∷ cs)) ≡ accepted (judged sums g cs) =
          accepted-rest sums g c cs e ∙ ap (λ h. accepted (judged sums h cs)) (after-refused sums g c e) in
          later g none (sym (ap (λ cs. is_among (filter_map leaver_of cs) k) item) ∙ some)

-- what a joiner's id has
abbrev JoinsAs : (ℕ → Type 0) → Change → Type 0
JoinsAs Q (Join member) = Q member.id
JoinsAs Q (Move id seq at) = Unit {0}
JoinsAs Q (Leave id) = Unit {0}

module _ (Q : ℕ → Type 0) (sums : List RegionSum) where
  abbrev HasId : Row → Type 0
  HasId r = Q r.member.id

  -- what each row's id and each joiner's has, each id has after a change
  ids-mover : (g : GroupState) (id seq : ℕ) (at : Axes) (o : Option Row) → row_of id g.rows ≡ o → AllByRecursion HasId g.rows
      → AllByRecursion HasId (with_mover sums g id seq at o).rows
  ids-mover g id seq at None found all = all
  ids-mover g id seq at (Some row) found all =
      let held = find-holds HasId (λ (r : Row). r.member.id == id) g.rows row all found in
      ByRecursion-placed HasId (moved_row sums seq at row) (without id g.rows) held.0 (All-of_filter HasId (λ (r : Row). not (r.member.id == id)) g.rows all)

  ids-change : (g : GroupState) (c : Change) → JoinsAs Q c → AllByRecursion HasId g.rows → AllByRecursion HasId (with_change sums g c).rows
  ids-change g (Join m) joins all = ByRecursion-placed HasId (joined_row sums m) g.rows joins all
  ids-change g (Move id seq at) joins all = ids-mover g id seq at (row_of id g.rows) refl all
  ids-change g (Leave id) joins all = All-of_filter HasId (λ (r : Row). not (r.member.id == id)) g.rows all

  -- so each leaver of the accepted changes has it
  leavers-first_has : (g : GroupState) (c : Change) (ids : List ℕ) → is_accepted (verdict_on g c) ≡ true → AllByRecursion HasId g.rows
      → AllByRecursion Q ids → AllByRecursion Q (cons_option (leaver_of c) ids)
  leavers-first_has g (Join m) ids e all later = later
  leavers-first_has g (Move id seq at) ids e all later = later
  leavers-first_has g (Leave id) ids e all later =
      (there-has Q id g.rows all (leave-tells (has_member id g.rows) (id == g.leader) e), later)

  leavers-have : (changes : List Change) (g : GroupState) → AllByRecursion (JoinsAs Q) changes → AllByRecursion HasId g.rows
      → AllByRecursion Q (filter_map leaver_of (accepted (judged sums g changes)))
  leavers-have [] g joins all = tt
  leavers-have (c ∷ cs) g joins all = by_verdict (is_accepted (verdict_on g c)) refl (λ h. leavers-have cs h joins.1)
    where
      by_verdict : (b : Bool) → is_accepted (verdict_on g c) ≡ b
          → ((h : GroupState) → AllByRecursion HasId h.rows → AllByRecursion Q (filter_map leaver_of (accepted (judged sums h cs))))
          → AllByRecursion Q (filter_map leaver_of (accepted (judged sums g (c ∷ cs))))
      by_verdict true e later =
          let next = with_change sums g c in
          let item : accepted (judged sums g (c ∷ cs)) ≡ c ∷ accepted (judged sums next cs) =
          accepted-first sums g c cs e ∙ ap (λ h. c ∷ accepted (judged sums h cs)) (after-accepted sums g c e) in
          subst (λ (kept : List Change). AllByRecursion Q (filter_map leaver_of kept)) (sym item)
          (leavers-first_has g c (filter_map leaver_of (accepted (judged sums next cs))) e all (later next (ids-change g c joins.0 all)))
      by_verdict false e later =
          let item : accepted (judged sums g (c ∷ cs)) ≡ accepted (judged sums g cs) =
          accepted-rest sums g c cs e ∙ ap (λ h. accepted (judged sums h cs)) (after-refused sums g c e) in
          subst (λ (kept : List Change). AllByRecursion Q (filter_map leaver_of kept)) (sym item) (later g all)

-- so the ids that left are those that the item retires
module _ (before : GroupState) (turn : Turn) (is : IsGroup before) (of : IsTurnOf before turn) where
  retired-is : turn.group.retired ≡ (with_item (region_sums before.rows) before turn.item).retired
  retired-is =
      ap (λ (g : GroupState). g.retired) (turn-made before turn of).group
      ∙ ap (λ item. (with_item (region_sums before.rows) before item).retired) (item-again before turn of)

  -- one of the item's leavers wasn't retired before
  was-fresh : (k : ℕ) → is_among (filter_map leaver_of turn.item) k ≡ true → is_among before.retired k ≡ false
  was-fresh k some =
      leavers-fresh (region_sums before.rows) turn.item before k is.staffed.none_retired
      (ap (λ item. is_among (filter_map leaver_of item) k) (item-again before turn of) ∙ some)

  among-left_in : (k : ℕ) → is_among (left_in before turn.group) k ≡ is_among (leavers turn.item) k
  among-left_in k =
      let was = is_among before.retired k in
      let leaves = is_among (filter_map leaver_of turn.item) k in
      let now = ap (λ ns. is_among ns k) retired-is ∙ retired-item (region_sums before.rows) turn.item before k in
      among-filter (λ id. not (is_among before.retired id)) k turn.group.retired
      ∙ (ap (λ b. b && not was) now
      ∙ (by_cases leaves was (was-fresh k) ∙ sym (among-placed_each k [] (filter_map leaver_of turn.item) ∙ or-false leaves)))
    where
      by_cases : (a b : Bool) → (a ≡ true → b ≡ false) → ((a || b) && not b) ≡ a
      by_cases true true fresh = absurd (let clash = fresh refl in cc)
      by_cases true false fresh = refl
      by_cases false true fresh = refl
      by_cases false false fresh = refl

  pub left_in-leavers : left_in before turn.group ≡ leavers turn.item
  left_in-leavers =
      let up = subst IsAscending (sym retired-is) (retired-ascend (region_sums before.rows) turn.item before is.staffed.retired_ascend) in
      same_among (left_in before turn.group) (leavers turn.item)
      (IsAscendingBy-filter (λ n. n) (λ id. not (is_among before.retired id)) turn.group.retired up)
      (IsAscendingBy-placed_each (λ n. n) [] (filter_map leaver_of turn.item) tt) among-left_in

  -- they are allowed where the ids of the item's joiners are
  pub AreIds-left_in : AllByRecursion FitsRow turn.item → AllByRecursion IsId (left_in before turn.group)
  AreIds-left_in fits =
      let joins = All-weaker FitsRow (JoinsAs IsId) joins_as turn.item fits in
      let ids = All-weaker IsRow (λ (r : Row). IsId r.member.id) (λ r row. row.member.id) before.rows is.staffed.allowed in
      let kept = leavers-have IsId (region_sums before.rows) turn.item before joins ids in
      let mine = subst (λ (item : List Change). AllByRecursion IsId (filter_map leaver_of item)) (item-again before turn of) kept in
      subst (AllByRecursion IsId) (sym left_in-leavers) (All-placed_each (λ n. n) IsId [] (filter_map leaver_of turn.item) tt mine)
    where
      joins_as : (c : Change) → FitsRow c → JoinsAs IsId c
      joins_as (Join m) allowed = allowed.id
      joins_as (Move id seq at) allowed = tt
      joins_as (Leave id) allowed = tt
