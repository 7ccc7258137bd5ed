-- A turn of a group: the group before, the state before the cut, and the group after.
use Rattle.std.specs.Prelude.{◌≡◌, ℕ, ◌≤◌, ◌==◌, List, length, map, Option, Some, None, if◌then◌else◌}
use Rattle.cs_base.specs.Ascending.{IsDistinctBy}
use Rattle.cs_base.specs.Changes.{id_of}
use Rattle.cs_base.specs.Limits.{most_changes}
use Rattle.cs_base.specs.declared.split.Cut.{Cut}
use Rattle.cs_group.specs.Group.{GroupState}
use Rattle.cs_group.specs.Next.{before_cut, next_turn, with_all_accepted}
use Rattle.cs_group.specs.Rows.{members_in, regions}
use Rattle.cs_group.specs.declared.next.Turn.{Turn}
use Rattle.cs_group.specs.declared.row.Row.{Row}
use Rattle.cs_roll.specs.Sight.{Summaries}
use Rattle.cs_roll.specs.Summary.{summary_of}

-- the turn has the group, the merge and the cut to which its item leads
pub record IsTurnOf (before : GroupState) (turn : Turn) : Type 0 where
  pub distinct : IsDistinctBy id_of turn.item
  pub few : length turn.item ≤ most_changes
  pub next : next_turn before turn.item ≡ Some (with_all_accepted turn)

-- the rows before the cut
abbrev pub middle_rows : GroupState → Turn → List Row
middle_rows before turn = (before_cut before turn.item).rows

-- the summary of each region
abbrev pub summaries_of : List Row → Summaries
summaries_of rows = map (λ region. (region, summary_of (members_in region rows))) (regions rows)

-- the region that took this one in, where it was merged
abbrev pub taken_in_by : Option (ℕ × ℕ) → ℕ → Option ℕ
taken_in_by None region = None
taken_in_by (Some merge) region = if merge.0 == region then Some merge.1 else None

-- the cut of a region, where it was cut
abbrev pub cut_of : Option (ℕ × Cut) → ℕ → Option Cut
cut_of None region = None
cut_of (Some cut) region = if cut.0 == region then Some cut.1 else None
