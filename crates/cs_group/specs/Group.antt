-- The group: its leader, its rows, the number of the next new region, and the ids that left, which never return.
use Rattle.std.specs.Prelude.{◌≡◌, ℕ, ◌+◌, ◌<◌, ◌≤◌, Bool, true, false, ◌==◌, List, [], ◌∷◌, length}
use Rattle.std.specs.List.{AllByRecursion, list_any}
use Rattle.cs_base.specs.Ascending.{IsAscending}
use Rattle.cs_base.specs.Limits.{last_number, most_members, most_regions, most_together}
use Rattle.cs_base.specs.declared.member.Member.{Member}
use Rattle.cs_group.specs.declared.row.Row.{Row}
use Rattle.cs_group.specs.Rows.{IsInOrder, IsRow, HasDistinctIds, has_member, regions}

pub record GroupState : Type 0 where
  pub leader : ℕ
  pub rows : List Row
  pub next_region : ℕ
  pub retired : List ℕ

-- the state that has these parts
abbrev pub state_of : ℕ → List Row → ℕ → List ℕ → GroupState
state_of leader rows next_region retired =
    record { leader = leader; rows = rows; next_region = next_region; retired = retired }

-- at epoch 0 the leader is alone in region 0
abbrev pub first_group : Member → GroupState
first_group leader = record {
  leader = leader.id;
  rows = record { region = 0; member = leader; seq = 0 } ∷ [];
  next_region = 1;
  retired = [];
}

-- whether the number is among these
abbrev pub is_among : List ℕ → ℕ → Bool
is_among ids id = list_any (λ n. n == id) ids

-- what holds of a group's members and retired ids, also while changes are taken in
pub record IsStaffed (g : GroupState) : Type 0 where
  pub in_order : IsInOrder g.rows
  pub distinct : HasDistinctIds g.rows
  pub allowed : AllByRecursion IsRow g.rows
  pub retired_ascend : IsAscending g.retired
  pub none_retired : AllByRecursion (λ (r : Row). is_among g.retired r.member.id ≡ false) g.rows
  pub few_members : length g.rows ≤ most_members
  pub few_together : length g.rows + length g.retired ≤ most_together
  pub leader_there : has_member g.leader g.rows ≡ true

-- what holds of every group: its region numbers were given before
pub record IsGroup (g : GroupState) : Type 0 where
  pub staffed : IsStaffed g
  pub numbered : AllByRecursion (λ (r : Row). r.region < g.next_region) g.rows
  pub next_number : g.next_region ≤ last_number + 1
  pub few_regions : length (regions g.rows) ≤ most_regions
