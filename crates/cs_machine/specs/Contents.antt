-- What names stand for, computed from the items: the group of an epoch, the turn that led to it, and with them views,
-- slices and pieces.
use Rattle.std.specs.Prelude.{ℕ, ◌-◌, List, [], Option, Some, None, slice_get}
use Rattle.std.specs.Option.{unwrap_or}
use Rattle.cs_group.specs.Group.{GroupState, state_of}
use Rattle.cs_group.specs.History.{group_at}
use Rattle.cs_group.specs.Next.{next_turn}
use Rattle.cs_group.specs.declared.next.Turn.{Turn}
use Rattle.cs_item.specs.SliceField.{slice_bytes}
use Rattle.cs_item.specs.declared.picture.Picture.{Picture}
use Rattle.cs_item.specs.declared.slice.Slice.{Slice}
use Rattle.cs_packet.specs.Own.{member_of_own}
use Rattle.cs_piece.specs.Blocks.{piece_of}
use Rattle.cs_slicer.specs.Projection.{projection}
use Rattle.cs_slicer.specs.Slice.{slice_in}
use Rattle.cs_machine.specs.Entries.{items_in}
use Rattle.cs_machine.specs.Names.{Item, Node, World, leader_of}

-- the items that a leader has logged
abbrev pub items_led_by : Option Node → List Item
items_led_by None = []
items_led_by (Some leader) = items_in leader.entries

-- the items so far: those of the world's leader
abbrev pub items : World → List Item
items world = items_led_by (leader_of world)

-- the group of each epoch, and the turn that led to it
pub record Contents : Type 0 where
  pub group : ℕ → GroupState
  pub turn : ℕ → Turn

-- nobody is in it: the group where nobody leads
abbrev pub no_group : GroupState
no_group = state_of 0 [] 0 []

-- no turn led to epoch 0
abbrev pub no_turn : Turn
no_turn = record { group = no_group; verdicts = []; item = []; merged = None; cut = None }

-- the group of a leader at an epoch, by these items
abbrev pub group_led_by : Option Node → List Item → ℕ → GroupState
group_led_by None given epoch = no_group
group_led_by (Some leader) given epoch = unwrap_or (group_at (member_of_own leader.own) given epoch) no_group

-- the group of the world's leader at an epoch
abbrev pub group_of : World → ℕ → GroupState
group_of world epoch = group_led_by (leader_of world) (items world) epoch

-- the item of an epoch
abbrev pub item_at : List Item → ℕ → Item
item_at given epoch = unwrap_or (slice_get given (epoch - 1)) []

-- the turn from the group before
abbrev pub turn_of : World → ℕ → Turn
turn_of world epoch = unwrap_or (next_turn (group_of world (epoch - 1)) (item_at (items world) epoch)) no_turn

abbrev pub contents_of : World → Contents
contents_of world = record { group = group_of world; turn = turn_of world }

-- what a node knows of the group of an epoch, with the rolls of these regions
abbrev pub view_at : Contents → ℕ → List ℕ → Picture
view_at c epoch known = projection epoch known (c.group epoch)

-- what an epoch tells a region of the group before
abbrev pub slice_at : Contents → ℕ → ℕ → Slice
slice_at c epoch region = slice_in (c.group (epoch - 1)) (c.turn epoch) epoch region

-- its piece of a colour
abbrev pub piece_at : Contents → ℕ → ℕ → ℕ → List ℕ
piece_at c epoch region colour = piece_of (slice_bytes (slice_at c epoch region)) colour
