-- What every node keeps, whatever bytes came to it.
use Rattle.std.specs.Prelude.{◌≡◌, ℕ, ◌+◌, ◌≤◌, IsTrue, List, length, None, IfSome}
use Rattle.std.specs.List.{AllByRecursion}
use Rattle.cs_base.specs.Ascending.{IsAscendingBy}
use Rattle.cs_base.specs.Limits.{last_id, most_regions}
use Rattle.cs_hold.specs.Held.{Held, IsHold}
use Rattle.cs_item.specs.PictureField.{IsPicture}
use Rattle.cs_item.specs.SliceField.{IsSlice}
use Rattle.cs_item.specs.declared.picture.Picture.{Picture}
use Rattle.cs_item.specs.declared.slice.Slice.{Slice}
use Rattle.cs_pending.specs.Reportable.{CanBeReported}
use Rattle.cs_view.specs.View.{IsView}
use Rattle.cs_core.specs.Holding.{region_fault}
use Rattle.cs_core.specs.Node.{Following, Node, Past, lists}

-- the view is one, and it can be logged and sent
pub record IsGoodView (v : Picture) : Type 0 where
  pub picture : IsPicture v
  pub view : IsView v

-- held pieces are of listed regions, and the bytes of a whole region are its slice of the epoch
pub record IsHeldFor (epoch : ℕ) (view : Picture) (held : List Held) : Type 0 where
  pub hold : IsHold held
  pub listed : AllByRecursion (λ (h : Held). IsTrue (lists view h.region)) held
  pub whole : (region : ℕ) → region_fault epoch region held ≡ None

-- the slices by which a node came to an epoch are of that epoch
pub record AreUsed (e : ℕ) (used : List Slice) : Type 0 where
  pub few : length used ≤ most_regions
  pub ascending : IsAscendingBy (λ (s : Slice). s.part.region) used
  pub slices : AllByRecursion IsSlice used
  pub epoch : AllByRecursion (λ (s : Slice). s.head.epoch ≡ e) used

pub record IsFollowing (m : Following) : Type 0 where
  pub view : IsGoodView m.view
  pub held : IsHeldFor (m.view.epoch + 1) m.view m.held
  pub used : AreUsed m.view.epoch m.used
  pub pending : CanBeReported m.pending
  pub seq : m.seq ≤ last_id
  pub past : IfSome m.past (λ (past : Past). IsGoodView past.view)

-- what a member has is kept; a joining node has nothing
abbrev pub IsNode : Node → Type 0
IsNode node = IfSome node.following IsFollowing
