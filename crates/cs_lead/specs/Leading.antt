-- The leader: who it is, and what it has at its epoch.
use Rattle.std.specs.Prelude.{ℕ, ◌+◌, List, [], map}
use Rattle.cs_base.specs.declared.change.Change.{Change}
use Rattle.cs_base.specs.declared.member.Member.{Member}
use Rattle.cs_group.specs.Group.{GroupState, first_group}
use Rattle.cs_group.specs.Rows.{regions}
use Rattle.cs_group.specs.declared.next.Turn.{Turn}
use Rattle.cs_item.specs.declared.picture.Picture.{Picture}
use Rattle.cs_item.specs.declared.slice.Slice.{Slice}
use Rattle.cs_slicer.specs.Projection.{projection}
use Rattle.cs_slicer.specs.Slice.{slice_in}

-- the group of its epoch; its view, which has all of the group; the slices by which members come to this epoch, none
-- at epoch 0; and the changes that wait to be judged
pub record Leading : Type 0 where
  pub me : Member
  pub group : GroupState
  pub view : Picture
  pub slices : List Slice
  pub pending : List Change

-- all of a group at an epoch
abbrev pub whole_view : ℕ → GroupState → Picture
whole_view epoch group = projection epoch (regions group.rows) group

-- what a turn tells each region of the group before it
abbrev pub all_slices : GroupState → Turn → ℕ → List Slice
all_slices before turn epoch = map (slice_in before turn epoch) (regions before.rows)

-- the leader at epoch 0, alone in its group
abbrev pub begun : Member → Leading
begun me = record {
  me = me;
  group = first_group me;
  view = whole_view 0 (first_group me);
  slices = [];
  pending = [];
}

-- the leader of an epoch to which a turn of the group before it led
abbrev pub led_to : Member → GroupState → Turn → ℕ → List Change → Leading
led_to me before turn epoch pending = record {
  me = me;
  group = turn.group;
  view = whole_view epoch turn.group;
  slices = all_slices before turn epoch;
  pending = pending;
}

-- the leader of the next epoch, after a turn of its group
abbrev pub after_turn : Leading → Turn → List Change → Leading
after_turn leader turn pending = led_to leader.me leader.group turn (leader.view.epoch + 1) pending
