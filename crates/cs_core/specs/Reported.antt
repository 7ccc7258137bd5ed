-- What becomes of a node's own change.
use Rattle.std.specs.Prelude.{◌≡◌, ⊤}
use Rattle.cs_base.specs.Ranges.{IsSeq}
use Rattle.cs_base.specs.declared.change.Change.{Change}
use Rattle.cs_base.specs.declared.change.Change.TheVariants.{Join, Leave, Move}
use Rattle.cs_packet.specs.PacketField.{AreSends}
use Rattle.cs_packet.specs.declared.own.Own.{Own}
use Rattle.cs_pending.specs.Reportable.{CanBeReported}
use Rattle.cs_core.specs.Changes.{kept_as, pending_with, sends_of}
use Rattle.cs_core.specs.Node.{Following}
use Rattle.cs_core.specs.declared.changes.Reported.{Reported}

-- the number of a move isn't 0
abbrev pub HasNumber : Change → Type 0
HasNumber (Join member) = ⊤
HasNumber (Move id seq at) = IsSeq seq
HasNumber (Leave id) = ⊤

-- its packets, what is pending then, and what the change met where the node keeps it
pub record IsReported (own : Own) (m : Following) (change : Change) (r : Reported) : Type 0 where
  pub sends : r.sends ≡ sends_of own m change
  pub allowed : AreSends r.sends
  pub kept : r.kept ≡ kept_as own m change
  pub pending : r.pending ≡ pending_with own m change
  pub reportable : CanBeReported r.pending
