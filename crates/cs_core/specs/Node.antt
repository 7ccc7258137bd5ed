-- A node that isn't the leader: who it is, and what it has once it is a member. Without that it is joining.
use Rattle.std.specs.Prelude.{ℕ, ◌==◌, ◌&&◌, not, Bool, List, [], Option, None, Some, is_some}
use Rattle.std.specs.List.{list_any}
use Rattle.std.specs.Option.{option_map}
use Rattle.cs_base.specs.declared.change.Change.{Change}
use Rattle.cs_hold.specs.Held.{Held}
use Rattle.cs_item.specs.declared.picture.Picture.{Picture}
use Rattle.cs_item.specs.declared.slice.Slice.{Slice}
use Rattle.cs_packet.specs.declared.own.Own.{Own}
use Rattle.cs_roll.specs.Sight.{at_region}

-- what a member remembers of the epoch before its own: its view then, and the region and colour of each piece that it
-- had or passed on
pub record Past : Type 0 where
  pub view : Picture
  pub had : List (ℕ × ℕ)

-- what a member has: its view; the pieces that it holds of the next epoch; the slices by which it came to its own
-- epoch, none after a snapshot; the changes that wait to be handed on; the number of its last move; and its past,
-- after a step
pub record Following : Type 0 where
  pub view : Picture
  pub held : List Held
  pub used : List Slice
  pub pending : List Change
  pub seq : ℕ
  pub past : Option Past

pub record Node : Type 0 where
  pub own : Own
  pub following : Option Following

-- a node that has no view yet
abbrev pub joining : Own → Node
joining own = record { own = own; following = None }

-- a node that goes by a view
abbrev pub member : Own → Following → Node
member own m = record { own = own; following = Some m }

-- the view of a node, where it has one
abbrev pub view_of : Node → Option Picture
view_of node = option_map (λ (m : Following). m.view) node.following

-- whether the view lists the region
abbrev pub lists : Picture → ℕ → Bool
lists view region = is_some (at_region region view.summaries)

-- whether the pair of a region and a colour is among these
abbrev pub has_pair : List (ℕ × ℕ) → ℕ → ℕ → Bool
has_pair pairs region colour = list_any (λ (pair : ℕ × ℕ). (pair.0 == region) && (pair.1 == colour)) pairs

-- what a restart brings back: all but held pieces, pending changes and the past
abbrev pub lasting : Following → Following
lasting m = record {
  view = m.view;
  held = [];
  used = m.used;
  pending = [];
  seq = m.seq;
  past = None;
}
