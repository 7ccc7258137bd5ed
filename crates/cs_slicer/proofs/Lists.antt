-- The lists of a head and of a part: in which order they stand, and how long they are at most.
use Rattle.std.proofs.Common.{ℕ, ◌<◌, ◌≤◌, Bool, false, not, List, [], ◌∷◌, length, map, arith}
use Rattle.std.specs.List.{AllByRecursion, filter}
use Rattle.std.specs.Option.{is_some, option_map_or}
use Rattle.std.proofs.lemmas.List.{length-map}
use Rattle.cs_base.specs.Ascending.{IsAscending, IsAscendingBy}
use Rattle.cs_base.specs.Limits.{most_regions}
use Rattle.cs_base.specs.declared.member.Member.{Member}
use Rattle.cs_base.proofs.Ascending.{IsAscendingBy-filter, IsOrderedBy-filter}
use Rattle.cs_base.proofs.Elements.{All-changed, All-weaker}
use Rattle.cs_base.specs.Ranges.{IsMember, IsRegion}
use Rattle.cs_roll.specs.Roll.{IsById, IsRoll, member_id, member_of}
use Rattle.cs_roll.specs.Same.{is_same_member, is_same_summary}
use Rattle.cs_roll.specs.Sight.{IsByRegion, at_region}
use Rattle.cs_roll.specs.Summary.{RegionSummary}
use Rattle.cs_group.specs.Group.{GroupState, IsGroup, is_among}
use Rattle.cs_group.specs.Rows.{regions}
use Rattle.cs_group.specs.declared.next.Turn.{Turn}
use Rattle.cs_group.specs.declared.row.Row.{Row}
use Rattle.cs_group.proofs.Members.{length-filter-le}
use Rattle.cs_group.proofs.Regions.{ByRecursion-regions, IsAscending-regions}
use Rattle.cs_slicer.specs.Head.{dropped_in, is_same_kind, left_in, summaries_in, touched_in}
use Rattle.cs_slicer.specs.Part.{gone_from, new_in, part_in}
use Rattle.cs_slicer.specs.Turn.{summaries_of}
use Rattle.cs_slicer.proofs.Beside.{beside}
use Rattle.cs_slicer.proofs.Summaries.{IsByRegion-summaries_of, summary_in}

-- a list ascends where its images do
pub IsAscendingBy-map : {S T : Type 0} (key : T → ℕ) (f : S → T) (xs : List S) → IsAscendingBy (λ x. key (f x)) xs → IsAscendingBy key (map f xs)
IsAscendingBy-map key f [] up = tt
IsAscendingBy-map key f (x ∷ xs) up =
    (All-changed (λ y. key (f x) < key (f y)) (λ y. key (f x) < key y) f (λ y above. above) xs up.0, IsAscendingBy-map key f xs up.1)

-- the ids that left ascend
pub IsAscending-left_in : (before after : GroupState) → IsGroup after → IsAscending (left_in before after)
IsAscending-left_in before after is = IsAscendingBy-filter (λ n. n) (λ id. not (is_among before.retired id)) after.retired is.staffed.retired_ascend

-- a group's regions are allowed
pub AreRegions-group : (g : GroupState) → IsGroup g → AllByRecursion IsRegion (regions g.rows)
AreRegions-group g is =
    ByRecursion-regions IsRegion g.rows
    (All-weaker (λ (r : Row). r.region < g.next_region) (λ (r : Row). IsRegion r.region) (λ r below. (omega arith, omega (arith, below, is.next_number)))
    g.rows is.numbered)

module _ (p : ℕ → Bool) (rows : List Row) where
  -- some of the regions ascend
  pub IsAscending-some_regions : IsAscending (filter p (regions rows))
  IsAscending-some_regions = IsAscendingBy-filter (λ n. n) p (regions rows) (IsAscending-regions rows)

  -- they are no more than all
  pub length-some_regions : length (regions rows) ≤ most_regions → length (filter p (regions rows)) ≤ most_regions
  length-some_regions few = omega (arith, few, length-filter-le p (regions rows))

-- the dropped regions ascend
pub IsAscending-dropped_in : (before after : List Row) → IsAscending (dropped_in before after)
IsAscending-dropped_in before after = IsAscending-some_regions (λ region. not (is_among (regions after) region)) before

-- and are few
pub length-dropped_in : (before after : List Row) → length (regions before) ≤ most_regions → length (dropped_in before after) ≤ most_regions
length-dropped_in before after few = length-some_regions (λ region. not (is_among (regions after) region)) before few

-- and so are the touched ones
pub IsAscending-touched_in : (before : GroupState) (turn : Turn) → IsAscending (touched_in before turn)
IsAscending-touched_in before turn = IsAscending-some_regions (λ region. not (is_same_kind (part_in before turn region).kind)) before.rows

pub length-touched_in : (before : GroupState) (turn : Turn) → length (regions before.rows) ≤ most_regions → length (touched_in before turn) ≤ most_regions
length-touched_in before turn few = length-some_regions (λ region. not (is_same_kind (part_in before turn region).kind)) before.rows few

-- whether a summary is new or differs from before
abbrev pub is_new : List Row → ℕ × RegionSummary → Bool
is_new before pair = not (option_map_or (is_same_summary pair.1) (at_region pair.0 (summaries_of before)) false)

-- the head's summaries ascend by region
pub IsByRegion-summaries_in : (before after : List Row) → IsByRegion (summaries_in before after)
IsByRegion-summaries_in before after =
    IsAscendingBy-filter (λ (p : ℕ × RegionSummary). p.0) (is_new before) (summaries_of after) (IsByRegion-summaries_of after)

-- and are no more than the new regions
pub length-summaries_in : (before after : List Row) → length (summaries_in before after) ≤ length (regions after)
length-summaries_in before after =
    omega (arith, length-filter-le (is_new before) (summaries_of after), length-map (regions after) (beside (summary_in after)))

-- the ids that go out of an ascending roll ascend
pub IsAscending-gone_from : (old new : List Member) → IsById old → IsAscending (gone_from old new)
IsAscending-gone_from old new up =
    let stays : Member → Bool = λ m. not (is_some (member_of m.id new)) in
    IsAscendingBy-map (λ n. n) member_id (filter stays old) (IsAscendingBy-filter member_id stays old up)

-- whether a member is new or differs from before
abbrev is_other : List Member → Member → Bool
is_other old m = not (option_map_or (is_same_member m) (member_of m.id old) false)

-- the members that come in are a roll where the new ones are
pub IsRoll-new_in : (old new : List Member) → IsRoll new → IsRoll (new_in old new)
IsRoll-new_in old new is = IsOrderedBy-filter member_id IsMember (is_other old) new is

-- and no more than these
pub length-new_in : (old new : List Member) → length (new_in old new) ≤ length new
length-new_in old new = length-filter-le (is_other old) new
