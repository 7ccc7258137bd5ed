-- The next group, in five steps: accepted leavers go out, accepted joiners and movers stand in their place, regions
-- without members vanish, one region is merged, and one is cut. The first two are done change by change, in the order
-- of the item. Nothing is done for the third: the regions are those that have rows.
use Rattle.std.specs.Prelude.{◌≡◌, ℕ, nat_lt, Bool, ◌&&◌, List, Option, Some, None, if◌then◌else◌}
use Rattle.std.specs.Option.{is_some}
use Rattle.cs_base.specs.declared.change.Change.{Change}
use Rattle.cs_base.specs.Limits.{last_number}
use Rattle.cs_base.specs.declared.split.Cut.{Cut}
use Rattle.cs_group.specs.declared.next.GroupFault.{GroupFault}
use Rattle.cs_group.specs.declared.next.GroupFault.TheVariants.{Spent, Memory}
use Rattle.cs_group.specs.declared.next.Turn.{Turn}
use Rattle.cs_group.specs.Cut.{after_cut, cut_due, number_after, region_to_cut}
use Rattle.cs_group.specs.Group.{GroupState}
use Rattle.cs_group.specs.Judging.{accepted, all_accepted, item_of, verdicts_on}
use Rattle.cs_group.specs.Merge.{after_merge, merge_due}
use Rattle.cs_group.specs.Place.{region_sums}
use Rattle.cs_group.specs.Taking.{with_item}

-- the group with the accepted changes, by the sums as the epoch began
abbrev pub with_accepted : GroupState → List Change → GroupState
with_accepted g changes = with_item (region_sums g.rows) g (item_of g changes)

-- the group after the merge
abbrev pub merged_group : GroupState → GroupState
merged_group g = record g { rows = after_merge (merge_due g.rows) g.rows }

-- the state before the cut
abbrev pub before_cut : GroupState → List Change → GroupState
before_cut g changes = merged_group (with_accepted g changes)

-- the group after the cut
abbrev pub cut_group : Option (ℕ × Cut) → GroupState → GroupState
cut_group cut g = record g { rows = after_cut cut g.rows; next_region = number_after cut g.next_region }

-- whether a cut is due and no region number is left
abbrev pub is_spent : GroupState → Bool
is_spent g = is_some (region_to_cut g.rows) && nat_lt last_number g.next_region

-- the next group with what led to it. There is none where a cut is due and the region numbers are spent
abbrev pub next_turn : GroupState → List Change → Option Turn
next_turn g changes =
    let verdicts = verdicts_on g changes in
    let before = before_cut g changes in
    let cut = cut_due before.next_region before.rows in
    if is_spent before then None
    else Some (record {
      group = cut_group cut before;
      verdicts = verdicts;
      item = accepted verdicts;
      merged = merge_due (with_accepted g changes).rows;
      cut = cut;
    })

-- the turn that the accepted changes alone lead to
abbrev pub with_all_accepted : Turn → Turn
with_all_accepted turn = record turn { verdicts = all_accepted turn.item }

-- Spent comes only where there is no next group. Want of memory may come at any time
abbrev pub IsTurnFault : Option Turn → GroupFault → Type 0
IsTurnFault turn Spent = turn ≡ None
IsTurnFault turn Memory = Unit {0}
