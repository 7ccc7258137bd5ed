-- What every leader keeps, whatever bytes came to it: its parts belong together.
use Rattle.std.specs.Prelude.{◌≡◌, ◌⊎◌, ◌<◌, ◌≤◌, []}
use Rattle.std.specs.List.{AllByRecursion}
use Rattle.cs_base.specs.Limits.{last_number}
use Rattle.cs_group.specs.Group.{GroupState, IsGroup, first_group}
use Rattle.cs_group.specs.Led.{IsLedBy}
use Rattle.cs_group.specs.declared.next.Turn.{Turn}
use Rattle.cs_item.specs.SliceField.{IsSlice}
use Rattle.cs_pending.specs.Reportable.{CanBeReported}
use Rattle.cs_slicer.specs.Turn.{IsTurnOf}
use Rattle.cs_lead.specs.Leading.{Leading, all_slices, whole_view}

-- at epoch 0 it is alone, and there are no slices
pub record HasBegun (leader : Leading) : Type 0 where
  pub group : leader.group ≡ first_group leader.me
  pub epoch : leader.view.epoch ≡ 0
  pub slices : leader.slices ≡ []

-- it came to its epoch by a turn of a group before, and its slices are those of that turn
pub record CameBy (leader : Leading) (before : GroupState) (turn : Turn) : Type 0 where
  pub group : IsGroup before
  pub is_turn : IsTurnOf before turn
  pub next : turn.group ≡ leader.group
  pub later : 0 < leader.view.epoch
  pub slices : leader.slices ≡ all_slices before turn leader.view.epoch

-- how it came to its epoch
abbrev pub HasHistory : Leading → Type 0
HasHistory leader = HasBegun leader ⊎ ((before : GroupState) × (turn : Turn) × CameBy leader before turn)

pub record IsLeading (leader : Leading) : Type 0 where
  pub group : IsGroup leader.group
  pub led : IsLedBy leader.me leader.group
  pub epoch : leader.view.epoch ≤ last_number
  pub view : leader.view ≡ whole_view leader.view.epoch leader.group
  pub allowed : AllByRecursion IsSlice leader.slices
  pub history : HasHistory leader
  pub pending : CanBeReported leader.pending
