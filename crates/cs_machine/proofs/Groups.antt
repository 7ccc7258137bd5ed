-- Groups and their history: what a turn keeps, in which region a member is, and what one more item adds.
use Rattle.std.proofs.Common.{◌≡◌, ℕ, ◌+◌, ◌≤◌, ◌==◌, Bool, true, false, not, List, [], ◌∷◌, ◌++◌, length, map, Option, Some, None, refl}
use Rattle.std.proofs.Common.{ap, sym, subst, ◌∙◌, inl, inr, arith, length-append}
use Rattle.std.specs.List.{AllByRecursion, filter, list_any}
use Rattle.std.specs.Option.{IsSomeAnd, is_some, unwrap_or}
use Rattle.std.proofs.lemmas.Bool.{cases_lt, cond_both, eq-eqb, eqb-true, or_cases}
use Rattle.std.proofs.lemmas.Option.{none-some, same_Some}
use Rattle.cs_base.specs.Ranges.{IsMember}
use Rattle.cs_base.specs.declared.change.Change.{Change}
use Rattle.cs_base.specs.declared.change.Mode.{Mode}
use Rattle.cs_base.specs.declared.change.Mode.TheVariants as modes
use Rattle.cs_base.specs.declared.member.Member.{Member}
use Rattle.cs_base.specs.declared.split.Cut.{Cut}
use Rattle.cs_base.proofs.Ascending.{All-of_filter, IsAscendingBy-filter}
use Rattle.cs_group.specs.declared.next.Turn.{Turn}
use Rattle.cs_group.specs.declared.row.Row.{Row}
use Rattle.cs_group.specs.Cut.{after_cut, cut_due, is_cut_off}
use Rattle.cs_group.specs.Group.{GroupState, IsGroup, is_among}
use Rattle.cs_group.specs.History.{group_at}
use Rattle.cs_group.specs.Judging.{item_of, verdicts_on}
use Rattle.cs_group.specs.Merge.{after_merge, merge_due}
use Rattle.cs_group.specs.Next.{before_cut, cut_group, is_spent, next_turn, with_accepted}
use Rattle.cs_group.specs.Place.{region_sums}
use Rattle.cs_group.specs.Rows.{has_member, members_in, moved_to, placed, regions, rows_in, rows_outside}
use Rattle.cs_group.specs.Taking.{FitsRow, with_item}
use Rattle.cs_roll.specs.Roll.{member_of}
use Rattle.cs_slicer.specs.Projection.{known_by}
use Rattle.cs_group.proofs.Bounded.{IsGroup-first, group_at-longer, group_at-turn}
use Rattle.cs_group.proofs.Cutting.{any-weaken, region-among}
use Rattle.cs_group.proofs.Lists.{ByRecursion-append, ByRecursion-map, ByRecursion-weaken}
use Rattle.cs_group.proofs.ListTests.{any-filter}
use Rattle.cs_group.proofs.Merging.{placed_all}
use Rattle.cs_group.proofs.Order.{ByRecursion-placed}
use Rattle.cs_group.proofs.Regions.{ByRecursion-regions, IsAscending-regions}
use Rattle.cs_group.proofs.Led.{led-first, led-next}
use Rattle.cs_group.proofs.Sound.{IsGroup-next}
use Rattle.cs_machine.specs.Answers.{has_node}
use Rattle.cs_machine.specs.Contents.{no_group}
use Rattle.cs_machine.specs.Names.{Item}
use Rattle.cs_machine.specs.Reached.{AreRegionsOf, IsGroupOf, IsHistory}

-- ---- turns

-- what a turn is made of
pub record IsTurnMade (g : GroupState) (changes : List Change) (turn : Turn) : Type 0 where
  pub left : is_spent (before_cut g changes) ≡ false
  pub group : turn.group ≡ cut_group (cut_due (before_cut g changes).next_region (before_cut g changes).rows) (before_cut g changes)
  pub verdicts : turn.verdicts ≡ verdicts_on g changes
  pub item : turn.item ≡ item_of g changes

-- the next turn is made of these
pub turn-made : (g : GroupState) (changes : List Change) (turn : Turn) → next_turn g changes ≡ Some turn → IsTurnMade g changes turn
turn-made g changes turn is = go (is_spent (before_cut g changes)) refl
  where
    go : (b : Bool) → is_spent (before_cut g changes) ≡ b → IsTurnMade g changes turn
    go true e = absurd (let none : next_turn g changes ≡ None = rw e refl in none-some turn (sym none ∙ is))
    go false e =
        let before : GroupState = before_cut g changes in
        let made : Turn = record {
          group = cut_group (cut_due before.next_region before.rows) before;
          verdicts = verdicts_on g changes;
          item = item_of g changes;
          merged = merge_due (with_accepted g changes).rows;
          cut = cut_due before.next_region before.rows;
        } in
        let some : next_turn g changes ≡ Some made = rw e refl in
        let same : turn ≡ made = same_Some turn made (sym is ∙ some) in
        record {
          left = e;
          group = ap (λ (t : Turn). t.group) same;
          verdicts = ap (λ (t : Turn). t.verdicts) same;
          item = ap (λ (t : Turn). t.item) same;
        }

-- so the group of a turn is one of the same leader
pub IsGroupOf-turn : (leader : Member) (g : GroupState) (changes : List Change) (turn : Turn) → AllByRecursion FitsRow changes → IsGroupOf leader g
    → next_turn g changes ≡ Some turn → IsGroupOf leader turn.group
IsGroupOf-turn leader g changes turn fits is next =
    let made = turn-made g changes turn next in
    record {
      group = subst IsGroup (sym made.group) (IsGroup-next g changes fits is.group made.left);
      led = led-next leader g changes turn is.group is.led fits next;
    }

-- ---- history

-- before any item the leader is alone
pub IsHistory-empty : (leader : Member) → IsMember leader → IsHistory leader []
IsHistory-empty leader allowed epoch le =
    let first : epoch ≡ 0 = omega arith in
    subst (λ n. IsSomeAnd (group_at leader [] n) (IsGroupOf leader)) (sym first) (record { group = IsGroup-first leader allowed; led = led-first leader })

-- the item of a turn keeps the history one
pub IsHistory-turn : (leader : Member) (items : List Item) (changes : List Change) (g : GroupState) (turn : Turn) → IsHistory leader items
    → group_at leader items (length items) ≡ Some g → next_turn g changes ≡ Some turn → IsGroupOf leader turn.group
    → IsHistory leader (items ++ turn.item ∷ [])
IsHistory-turn leader items changes g turn history at next is epoch le =
    let P : Option GroupState → Type 0 = λ o. IsSomeAnd o (IsGroupOf leader) in
    elim (cases_lt (length items) epoch) [
      | inl last ↦
          let same : epoch ≡ length items + 1 = omega (arith, length-append items (turn.item ∷ [])) in
          subst P (sym (ap (group_at leader (items ++ turn.item ∷ [])) same ∙ group_at-turn leader items changes g turn at next)) is
      | inr before ↦ subst P (sym (group_at-longer leader items (turn.item ∷ []) epoch before)) (history epoch before)
    ]

-- so there is a group at each epoch so far
pub group-there : (leader : Member) (items : List Item) (epoch : ℕ) → IsHistory leader items → epoch ≤ length items
    → (let group = unwrap_or (group_at leader items epoch) no_group in (group_at leader items epoch ≡ Some group) × IsGroupOf leader group)
group-there leader items epoch history so_far = go (group_at leader items epoch) (history epoch so_far)
  where
    go : (o : Option GroupState) → IsSomeAnd o (IsGroupOf leader) → (o ≡ Some (unwrap_or o no_group)) × IsGroupOf leader (unwrap_or o no_group)
    go None is = absurd is
    go (Some group) is = (refl, is)

-- ---- regions

-- all regions of a group are some of its regions
pub AreRegionsOf-regions : (g : GroupState) → AreRegionsOf g (regions g.rows)
AreRegionsOf-regions g = record {
  ascending = IsAscending-regions g.rows;
  there = ByRecursion-regions (λ region. is_among (regions g.rows) region ≡ true) g.rows (region-among g.rows);
}

-- and so are those of some regions that a node knows
pub AreRegionsOf-known_by : (g : GroupState) (me : ℕ) (mode : Mode) (given : List ℕ) → AreRegionsOf g given → AreRegionsOf g (known_by me mode g.rows given)
AreRegionsOf-known_by g me modes.Partial given are =
    let has : ℕ → Bool = λ region. is_some (member_of me (members_in region g.rows)) in
    record {
      ascending = IsAscendingBy-filter (λ n. n) has given are.ascending;
      there = All-of_filter (λ region. is_among (regions g.rows) region ≡ true) has given are.there;
    }
AreRegionsOf-known_by g me modes.Full given are = are

-- ---- members

module _ (Q : Member → Type 0) where
  -- what holds of each row's member
  abbrev pub AllRows : List Row → Type 0
  AllRows rows = AllByRecursion (λ (r : Row). Q r.member) rows

  -- rows that are placed in another region have their members still
  AllRows-placed_all : (into : ℕ) (rows moved : List Row) → AllRows rows → AllRows moved → AllRows (placed_all into rows moved)
  AllRows-placed_all into rows [] all more = all
  AllRows-placed_all into rows (r ∷ rs) all more =
      AllRows-placed_all into (placed (moved_to into r) rows) rs (ByRecursion-placed (λ (s : Row). Q s.member) (moved_to into r) rows more.0 all) more.1

  -- so a merge leaves the members
  AllRows-merge : (merge : Option (ℕ × ℕ)) (rows : List Row) → AllRows rows → AllRows (after_merge merge rows)
  AllRows-merge None rows all = all
  AllRows-merge (Some merge) rows all =
      AllRows-placed_all merge.1 (rows_outside merge.0 rows) (rows_in merge.0 rows)
      (All-of_filter (λ (r : Row). Q r.member) (λ (r : Row). not (r.region == merge.0)) rows all)
      (All-of_filter (λ (r : Row). Q r.member) (λ (r : Row). r.region == merge.0) rows all)

  -- and so does a cut
  AllRows-cut : (cut : Option (ℕ × Cut)) (rows : List Row) → AllRows rows → AllRows (after_cut cut rows)
  AllRows-cut None rows all = all
  AllRows-cut (Some cut) rows all =
      let P : Row → Type 0 = λ r. Q r.member in
      let off : Row → Bool = is_cut_off cut.0 cut.1.split in
      ByRecursion-append P (filter (λ r. not (off r)) rows) (map (moved_to cut.1.upper) (filter off rows))
      (All-of_filter P (λ r. not (off r)) rows all)
      (ByRecursion-map (moved_to cut.1.upper) P (filter off rows) (All-of_filter P off rows all))

  -- so the members of a turn's group are those of the group with the accepted changes
  pub AllRows-turn : (g : GroupState) (changes : List Change) (turn : Turn) → next_turn g changes ≡ Some turn
      → AllRows (with_item (region_sums g.rows) g (item_of g changes)).rows → AllRows turn.group.rows
  AllRows-turn g changes turn next all =
      let before : GroupState = before_cut g changes in
      subst (λ (h : GroupState). AllRows h.rows) (sym (turn-made g changes turn next).group)
      (AllRows-cut (cut_due before.next_region before.rows) before.rows
      (AllRows-merge (merge_due (with_accepted g changes).rows) (with_accepted g changes).rows all))

module _ (id : ℕ) where
  -- whether a region of some rows has the member
  abbrev has_in : List Row → ℕ → Bool
  has_in rows region = is_some (member_of id (members_in region rows))

  -- one row more keeps it there
  has_in-more : (region : ℕ) (r : Row) (rs : List Row) → has_in rs region ≡ true → has_in (r ∷ rs) region ≡ true
  has_in-more region r rs some =
      cond_both (r.region == region) (r ∷ rows_in region rs) (rows_in region rs)
      (λ (kept : List Row). is_some (member_of id (map (λ (t : Row). t.member) kept)) ≡ true)
      (λ _. cond_both (r.member.id == id) (Some r.member) (member_of id (members_in region rs)) (λ o. is_some o ≡ true) (λ _. refl) (λ _. some))
      (λ _. some)

  -- the region of the member's row has it
  has_in-here : (r : Row) (rs : List Row) → (r.member.id == id) ≡ true → has_in (r ∷ rs) r.region ≡ true
  has_in-here r rs is = (let same : (r.region == r.region) ≡ true = eq-eqb r.region r.region refl in rw (same, is) refl)

  -- so each row of the member has a region that has it
  each-has_in : (rows : List Row) → AllByRecursion (λ (r : Row). (r.member.id == id) ≡ true → has_in rows r.region ≡ true) rows
  each-has_in [] = tt
  each-has_in (r ∷ rs) = (
    has_in-here r rs,
    ByRecursion-weaken (λ (s : Row). (s.member.id == id) ≡ true → has_in rs s.region ≡ true)
        (λ (s : Row). (s.member.id == id) ≡ true → has_in (r ∷ rs) s.region ≡ true)
        (λ s there is. has_in-more s.region r rs (there is)) rs (each-has_in rs),
  )

  -- one of some numbers passes, where the region of each of its rows is one of them and passes
  any-of_rows : (p : ℕ → Bool) (known : List ℕ) (rows : List Row) → AllByRecursion (λ (r : Row). is_among known r.region ≡ true) rows
      → AllByRecursion (λ (r : Row). (r.member.id == id) ≡ true → p r.region ≡ true) rows → has_member id rows ≡ true → list_any p known ≡ true
  any-of_rows p known [] among passes some = absurd (cc)
  any-of_rows p known (r ∷ rs) among passes some =
      let rest = any-of_rows p known rs among.1 passes.1 in
      elim (or_cases (r.member.id == id) (has_member id rs) some) [
        | inl here ↦ any-weaken (λ m. m == r.region) p
            (λ m same. subst (λ n. p n ≡ true) (sym (eqb-true m r.region same)) (passes.0 here)) known among.0
        | inr later ↦ rest later
      ]

  -- where one of some regions has the member, so does one of those that a node with this id may know of them
  pub has_node-known_by : (g : GroupState) (mode : Mode) (known : List ℕ) → has_node g id known ≡ true
      → has_node g id (known_by id mode g.rows known) ≡ true
  has_node-known_by g modes.Partial known there = any-filter (has_in g.rows) (has_in g.rows) known (λ region has. has) there
  has_node-known_by g modes.Full known there = there

  -- a member is in a region of the group, so this holds of all its regions
  pub has_node-member : (g : GroupState) → has_member id g.rows ≡ true → has_node g id (known_by id modes.Partial g.rows (regions g.rows)) ≡ true
  has_node-member g there =
      has_node-known_by g modes.Partial (regions g.rows)
      (any-of_rows (has_in g.rows) (regions g.rows) g.rows (region-among g.rows) (each-has_in g.rows) there)
