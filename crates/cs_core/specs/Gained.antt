-- What a member may gain, so that it can be kept and sent on.
use Rattle.std.specs.Prelude.{◌≡◌, ℕ, ◌+◌, ◌<◌, ⊤, IsTrue, List, length}
use Rattle.std.specs.List.{AllByRecursion}
use Rattle.cs_base.specs.Limits.{colours}
use Rattle.cs_base.specs.Ranges.{IsRegion}
use Rattle.cs_fields.specs.Fields.{IsLaterEpoch}
use Rattle.cs_item.specs.declared.slice.Slice.{Slice}
use Rattle.cs_packet.specs.PieceField.{IsPieceText}
use Rattle.cs_view.specs.declared.next.Next.{Next}
use Rattle.cs_view.specs.declared.next.Next.TheVariants.{Member, Departed}
use Rattle.cs_core.specs.Kept.{AreUsed, IsGoodView, IsHeldFor}
use Rattle.cs_core.specs.Node.{Following, lists}
use Rattle.cs_core.specs.Taking.{Gain, text_in}

-- pieces of the next epoch and of a listed region
pub record IsGain (m : Following) (gain : Gain) : Type 0 where
  pub epoch : IsLaterEpoch (m.view.epoch + 1)
  pub region : IsRegion gain.region
  pub listed : IsTrue (lists m.view gain.region)
  pub colours : AllByRecursion (λ colour. colour < colours) gain.colours
  pub texts : AllByRecursion (λ colour. IsPieceText (text_in gain.region colour gain.held)) gain.colours
  pub held : IsHeldFor (m.view.epoch + 1) m.view gain.held

-- a step gives a good view of this epoch, or the node departs
abbrev pub IsGoodNext : ℕ → Next → Type 0
IsGoodNext epoch (Member view) = IsGoodView view × (view.epoch ≡ epoch)
IsGoodNext epoch Departed = ⊤

-- what a step makes: it used some slices of this epoch, and what it gives is good
pub record IsMade (epoch : ℕ) (slices : List Slice) (after : Next) : Type 0 where
  pub used : AreUsed epoch slices
  pub some : 0 < length slices
  pub next : IsGoodNext epoch after
