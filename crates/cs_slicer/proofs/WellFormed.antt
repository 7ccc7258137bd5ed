-- The slices of a turn are well formed.
use Rattle.std.proofs.Common.{◌≡◌, ℕ, ◌<◌, ◌≤◌, ◌==◌, ◌&&◌, Bool, false, true, not, nat_lt}
use Rattle.std.proofs.Common.{List, length, Option, Some, None, IfSome, refl, sym, ap, subst, ◌∙◌, arith}
use Rattle.std.specs.List.{AllByRecursion}
use Rattle.std.specs.Option.{is_some, option_map}
use Rattle.std.proofs.lemmas.Bool.{cond_both, eqb-true, ltb-false}
use Rattle.std.proofs.lemmas.Option.{same_Some}
use Rattle.cs_base.specs.Axes.{Axes, IsNear, on_axis}
use Rattle.cs_base.specs.Limits.{farthest, last_number, most_members}
use Rattle.cs_base.specs.Ranges.{IsCut, IsId, IsMember, IsRegion}
use Rattle.cs_base.specs.declared.member.Member.{Member}
use Rattle.cs_base.specs.declared.point.Axis.{Axis}
use Rattle.cs_base.specs.declared.point.Axis.TheVariants.{X, Y, Z}
use Rattle.cs_base.specs.declared.split.Cut.{Cut}
use Rattle.cs_base.specs.declared.split.Split.{Split}
use Rattle.cs_base.proofs.Ascending.{All-of_filter}
use Rattle.cs_base.proofs.Elements.{All-changed, All-weaker}
use Rattle.cs_near.specs.Middle.{middle_on, split_at}
use Rattle.cs_near.specs.Widest.{widest_axis}
use Rattle.cs_near.proofs.Found.{find-holds}
use Rattle.cs_roll.specs.Roll.{IsRoll, member_of}
use Rattle.cs_roll.specs.Same.{are_same_members}
use Rattle.cs_roll.specs.Summary.{summary_of}
use Rattle.cs_roll.proofs.Summaries.{IsSummary-made}
use Rattle.cs_item.specs.Beside.{IsBeside}
use Rattle.cs_item.specs.RollField.{AreMembers}
use Rattle.cs_item.specs.SliceField.{HasLists, IsKind, IsPart}
use Rattle.cs_item.specs.SummaryField.{IsShortSummary}
use Rattle.cs_item.specs.declared.part.PartKind.{PartKind}
use Rattle.cs_item.specs.declared.part.PartKind.TheVariants.{Same, Diff}
use Rattle.cs_group.specs.declared.row.Row.{Row}
use Rattle.cs_group.specs.declared.next.Turn.{Turn}
use Rattle.cs_group.specs.Cut.{cut_at, cut_due, region_to_cut}
use Rattle.cs_group.specs.Group.{GroupState, IsGroup, is_among}
use Rattle.cs_group.specs.Next.{before_cut, cut_group, is_spent, next_turn}
use Rattle.cs_group.specs.Rows.{IsRow, members_in, regions, rows_in}
use Rattle.cs_group.specs.Taking.{FitsRow}
use Rattle.cs_group.proofs.Known.{among-holds}
use Rattle.cs_group.proofs.Lists.{ByRecursion-both}
use Rattle.cs_group.proofs.Members.{length-members_in-le}
use Rattle.cs_group.proofs.Order.{IsById-members_in}
use Rattle.cs_group.proofs.Regions.{no_region_empty}
use Rattle.cs_group.proofs.Sound.{IsGroup-before, IsGroup-next}
use Rattle.cs_slicer.specs.Head.{head_in, is_same_kind}
use Rattle.cs_slicer.specs.Part.{cut_of_target, diff_or_same, gone_from, kind_of, kind_of_kept, new_in, part_in, target_of}
use Rattle.cs_slicer.specs.Slicer.{AreWellFormed, slices_in}
use Rattle.cs_slicer.specs.Turn.{IsTurnOf, cut_of, middle_rows, summaries_of, taken_in_by}
use Rattle.cs_slicer.proofs.Leavers.{length-gone_from-item, length-left_in}
use Rattle.cs_slicer.proofs.Left.{AreIds-left_in}
use Rattle.cs_slicer.proofs.Lists.{AreRegions-group, IsAscending-dropped_in, IsAscending-gone_from, IsAscending-left_in, IsAscending-touched_in}
use Rattle.cs_slicer.proofs.Lists.{IsByRegion-summaries_in, IsRoll-new_in, is_new, length-dropped_in, length-new_in, length-summaries_in}
use Rattle.cs_slicer.proofs.Lists.{length-touched_in}
use Rattle.cs_slicer.proofs.Middle.{merge-known, turn-made}
use Rattle.cs_slicer.proofs.Summaries.{summary_in}

-- the members of a region of a group are a roll
pub IsRoll-members_in : (g : GroupState) (region : ℕ) → IsGroup g → IsRoll (members_in region g.rows)
IsRoll-members_in g region is = record {
  ascending = IsById-members_in region g.rows is.staffed.in_order;
  allowed = All-changed IsRow IsMember (λ (r : Row). r.member) (λ r row. row.member) (rows_in region g.rows)
      (All-of_filter IsRow (λ (r : Row). r.region == region) g.rows is.staffed.allowed);
}

-- so they are members of a field
pub AreMembers-members_in : (g : GroupState) (region : ℕ) → IsGroup g → AreMembers 0 most_members (members_in region g.rows)
AreMembers-members_in g region is =
    let roll = IsRoll-members_in g region is in
    let le = length-members_in-le region g.rows in
    record { enough = omega arith; few = omega (arith, le, is.staffed.few_members); allowed = roll.allowed; ascending = roll.ascending }

-- and where there are some, their summary is short
IsShortSummary-summary_of : (g : GroupState) (region : ℕ) → IsGroup g → 0 < length (members_in region g.rows) → IsShortSummary (summary_in g.rows region)
IsShortSummary-summary_of g region is some =
    let members = members_in region g.rows in
    let roll = IsRoll-members_in g region is in
    let le = length-members_in-le region g.rows in
    let few : length members ≤ most_members = omega (arith, le, is.staffed.few_members) in
    record {
      summary = IsSummary-made members (summary_of members) refl some (omega (arith, few)) roll
          (All-weaker IsMember (λ (m : Member). IsNear farthest m.at.x) (λ m allowed. allowed.at.x) members roll.allowed)
          (All-weaker IsMember (λ (m : Member). IsNear farthest m.at.y) (λ m allowed. allowed.at.y) members roll.allowed)
          (All-weaker IsMember (λ (m : Member). IsNear farthest m.at.z) (λ m allowed. allowed.at.z) members roll.allowed);
      few = few;
    }

-- a group's summaries are allowed beside their regions
pub summaries-allowed : (g : GroupState) → IsGroup g → AllByRecursion (IsBeside IsShortSummary 0) (summaries_of g.rows)
summaries-allowed g is =
    All-changed (λ n. IsRegion n × (0 < length (members_in n g.rows))) (IsBeside IsShortSummary 0) (λ n. (n, summary_in g.rows n))
    (λ n both. (both.0, IsShortSummary-summary_of g n is both.1)) (regions g.rows)
    (ByRecursion-both IsRegion (λ n. 0 < length (members_in n g.rows)) (regions g.rows) (AreRegions-group g is) (no_region_empty g.rows))

-- the split at a member is within the ranges
split-near : (axis : Axis) (m : Member) → IsMember m → IsNear farthest (on_axis axis m.at)
split-near X m allowed = allowed.at.x
split-near Y m allowed = allowed.at.y
split-near Z m allowed = allowed.at.z

-- a cut that is due is allowed
cut-allowed : (next : ℕ) (rows : List Row) (o : Option ℕ) (cut : ℕ × Cut) → ((n : ℕ) → AllByRecursion IsMember (members_in n rows))
    → (is_some o ≡ true → next ≤ last_number) → cut_at next rows o ≡ Some cut → IsCut cut.1
cut-allowed next rows None cut allowed number e = absurd (cc)
cut-allowed next rows (Some n) cut allowed number e = go (middle_on key point axis members) refl e
  where
    members : List Member
    members = members_in n rows

    key : Member → ℕ
    key m = m.id

    point : Member → Axes
    point m = m.at

    axis : Axis
    axis = widest_axis point members

    go : (o : Option Member) → middle_on key point axis members ≡ o
        → option_map {U = ℕ × Cut} (λ (s : Split). (n, record { split = s; upper = next })) (option_map (split_at axis) o) ≡ Some cut
        → IsCut cut.1
    go None found same = absurd (cc)
    go (Some m) found same =
        let made : Cut = record { split = split_at axis m; upper = next } in
        let pair : (let q : ℕ × Cut = (n, made) in q) ≡ cut = same_Some {A = ℕ × Cut} (n, made) cut same in
        let held = find-holds IsMember _ members m (allowed n) found in
        let here : IsCut made = record { at = split-near axis m held.0; id = held.0.id; upper = (omega arith, number refl) } in
        subst (λ (q : ℕ × Cut). IsCut q.1) pair here

-- a region that was taken in was merged into that one
pub taken-merge : (merge : Option (ℕ × ℕ)) (region into : ℕ) → taken_in_by merge region ≡ Some into → merge ≡ Some (region, into)
taken-merge None region into e = absurd (cc)
taken-merge (Some merge) region into e = by_key (merge.0 == region) refl
  where
    by_key : (same : Bool) → (merge.0 == region) ≡ same → Some merge ≡ Some (region, into)
    by_key true f =
        let taken : taken_in_by (Some merge) region ≡ Some merge.1 = rw f refl in
        let first = eqb-true merge.0 region f in
        let second = same_Some merge.1 into (sym taken ∙ e) in
        λ i. Some (first i, second i)
    by_key false f = absurd (let none : taken_in_by (Some merge) region ≡ None = rw f refl in cc)

-- a target's cut is allowed where the cut is
target-allowed : (cut : Option (ℕ × Cut)) (target : Option ℕ) → IfSome cut (λ c. IsCut c.1) → IfSome (cut_of_target cut target) IsCut
target-allowed cut None allowed = tt
target-allowed None (Some target) allowed = tt
target-allowed (Some cut) (Some target) allowed = cond_both (cut.0 == target) (Some cut.1) None (λ c. IfSome c IsCut) (λ _. allowed) (λ _. tt)

module _ (before : GroupState) (turn : Turn) (is : IsGroup before) (of : IsTurnOf before turn) (fits : AllByRecursion FitsRow turn.item) where
  abbrev middle : GroupState
  middle = before_cut before turn.item

  abbrev due : Option (ℕ × Cut)
  due = cut_due middle.next_region middle.rows

  -- the state before the cut is a group
  pub IsGroup-middle : IsGroup middle
  IsGroup-middle = IsGroup-before before turn.item fits is

  -- and so is the one after it
  pub IsGroup-after : IsGroup turn.group
  IsGroup-after =
      let left = (turn-made before turn of).left in
      let group : option_map (λ (t : Turn). t.group) (next_turn before turn.item) ≡ Some (cut_group due middle) = rw left refl in
      let same = same_Some (cut_group due middle) turn.group (sym group ∙ ap (option_map (λ (t : Turn). t.group)) of.next) in
      subst IsGroup same (IsGroup-next before turn.item fits is left)

  -- the cut is the one that is due
  due-is : due ≡ turn.cut
  due-is =
      let left = (turn-made before turn of).left in
      let cut : option_map (λ (t : Turn). t.cut) (next_turn before turn.item) ≡ Some due = rw left refl in
      same_Some due turn.cut (sym cut ∙ ap (option_map (λ (t : Turn). t.cut)) of.next)

  -- where one is due there is a number left
  number-left : is_some (region_to_cut middle.rows) ≡ true → middle.next_region ≤ last_number
  number-left some =
      let spent : is_spent middle ≡ nat_lt last_number middle.next_region = ap (λ b. b && nat_lt last_number middle.next_region) some in
      ltb-false last_number middle.next_region (sym spent ∙ (turn-made before turn of).left)

  -- so it is allowed
  turn-cut-allowed : IfSome turn.cut (λ c. IsCut c.1)
  turn-cut-allowed = by_cut turn.cut refl
    where
      by_cut : (o : Option (ℕ × Cut)) → turn.cut ≡ o → IfSome o (λ c. IsCut c.1)
      by_cut None e = tt
      by_cut (Some cut) e =
          cut-allowed middle.next_region middle.rows (region_to_cut middle.rows) cut (λ n. (IsRoll-members_in middle n IsGroup-middle).allowed) number-left
          (due-is ∙ e)

  -- the lists of the head are those of a field
  pub HasLists-head_in : (epoch : ℕ) → HasLists (head_in before turn epoch)
  HasLists-head_in epoch =
      let regions_allowed = AreRegions-group before is in
      let few = length-left_in before turn of in
      let fewer = length-summaries_in before.rows turn.group.rows in
      record {
        left = record {
          enough = omega arith;
          few = omega (arith, few, of.few);
          allowed = AreIds-left_in before turn is of fits;
          ascending = IsAscending-left_in before turn.group IsGroup-after;
        };
        dropped = record {
          enough = omega arith;
          few = length-dropped_in before.rows turn.group.rows is.few_regions;
          allowed = All-of_filter IsRegion (λ region. not (is_among (regions turn.group.rows) region)) (regions before.rows) regions_allowed;
          ascending = IsAscending-dropped_in before.rows turn.group.rows;
        };
        summaries = record {
          enough = omega arith;
          few = omega (arith, fewer, IsGroup-after.few_regions);
          allowed = All-of_filter (IsBeside IsShortSummary 0) (is_new before.rows) (summaries_of turn.group.rows) (summaries-allowed turn.group IsGroup-after);
          ascending = IsByRegion-summaries_in before.rows turn.group.rows;
        };
        touched = record {
          enough = omega arith;
          few = length-touched_in before turn is.few_regions;
          allowed = All-of_filter IsRegion (λ region. not (is_same_kind (part_in before turn region).kind)) (regions before.rows) regions_allowed;
          ascending = IsAscending-touched_in before turn;
        };
      }

  -- what becomes of a region that isn't merged is allowed
  kept-allowed : (region : ℕ) → taken_in_by turn.merged region ≡ None
      → (let kind = kind_of_kept before turn region in IsKind kind (cut_of_target turn.cut (target_of region kind)))
  kept-allowed region free =
      let old = members_in region before.rows in
      let new = members_in region (middle_rows before turn) in
      let P : PartKind → Type 0 = λ kind. IsKind kind (cut_of_target turn.cut (target_of region kind)) in
      let is_cut = is_some (cut_of turn.cut region) in
      let roll = IsRoll-members_in before region is in
      let now = IsRoll-members_in middle region IsGroup-middle in
      let few = length-gone_from-item before turn of region is.staffed.distinct free in
      let fewer = length-new_in old new in
      let most = length-members_in-le region middle.rows in
      let come = IsRoll-new_in old new now in
      cond_both (is_among (regions (middle_rows before turn)) region) (diff_or_same old new is_cut) Same P
      (λ _. cond_both (are_same_members old new && not is_cut) Same (Diff (gone_from old new) (new_in old new)) P (λ _. refl)
      (λ _. (
        record {
          enough = omega arith;
          few = omega (arith, few, of.few);
          allowed = All-changed IsMember IsId (λ (m : Member). m.id) (λ m allowed. allowed.id) _
              (All-of_filter IsMember (λ (m : Member). not (is_some (member_of m.id new))) old roll.allowed);
          ascending = IsAscending-gone_from old new roll.ascending;
        },
        record {
          enough = omega arith;
          few = omega (arith, fewer, most, IsGroup-middle.staffed.few_members);
          allowed = come.allowed;
          ascending = come.ascending;
        },
      ))) (λ _. refl)

  -- and so it is of one that is
  kind-allowed : (region : ℕ) (o : Option ℕ) → taken_in_by turn.merged region ≡ o
      → (let kind = kind_of before turn region o in IsKind kind (cut_of_target turn.cut (target_of region kind)))
  kind-allowed region None e = kept-allowed region e
  kind-allowed region (Some into) e =
      let there = (merge-known before turn is of region into (taken-merge turn.merged region into e)).into_there in
      (among-holds IsRegion into (regions middle.rows) (AreRegions-group middle IsGroup-middle) there, AreMembers-members_in middle into IsGroup-middle)

  -- so each part is well formed
  pub IsPart-part_in : (region : ℕ) → IsRegion region → IsPart (part_in before turn region)
  IsPart-part_in region allowed =
      let kind = kind_of before turn region (taken_in_by turn.merged region) in
      record {
        region = allowed;
        kind = kind-allowed region (taken_in_by turn.merged region) refl;
        cut = target-allowed turn.cut (target_of region kind) turn-cut-allowed;
      }

  -- and so are all slices
  pub AreWellFormed-slices_in : (epoch : ℕ) → epoch ≤ last_number → AreWellFormed (slices_in before turn epoch)
  AreWellFormed-slices_in epoch le = record {
    epoch = le;
    lists = HasLists-head_in epoch;
    parts = All-changed IsRegion IsPart (part_in before turn) IsPart-part_in (regions before.rows) (AreRegions-group before is);
  }
