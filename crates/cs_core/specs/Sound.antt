-- What every plan keeps to, whatever the node and the bytes.
use Rattle.std.specs.Prelude.{◌≡◌, ◌≢◌, ⊤, List, [], None, MatchOption}
use Rattle.cs_fields.specs.declared.fault.PacketFault.{PacketFault}
use Rattle.cs_fields.specs.declared.fault.PacketFault.TheVariants as packet_faults
use Rattle.cs_packet.specs.EntryField.{IsEntry}
use Rattle.cs_packet.specs.PacketField.{AreSends}
use Rattle.cs_piece.specs.declared.fault.PieceFault.{PieceFault}
use Rattle.cs_piece.specs.declared.fault.PieceFault.TheVariants as piece_faults
use Rattle.cs_view.specs.declared.fault.ViewFault.{ViewFault}
use Rattle.cs_view.specs.declared.fault.ViewFault.TheVariants as view_faults
use Rattle.cs_core.specs.Plans.{only}
use Rattle.cs_core.specs.declared.plan.FollowNote.{FollowNote}
use Rattle.cs_core.specs.declared.plan.FollowNote.TheVariants as notes
use Rattle.cs_core.specs.declared.plan.Plan.{Plan}
use Rattle.cs_core.specs.declared.plan.Unfit.{Unfit}
use Rattle.cs_core.specs.declared.plan.Unfit.TheVariants as unfit

-- a view fault that a node can tell: each held slice is of the next epoch and each part that is needed is there, so
-- neither of these is wrong, and want of memory is no fault of what came
abbrev pub IsTellable : ViewFault → Type 0
IsTellable (view_faults.Epoch have given) = ⊥
IsTellable (view_faults.Missing region) = ⊥
IsTellable view_faults.Memory = ⊥
IsTellable fault = ⊤

-- pieces have different colours, so they don't fit by their length or by what fills them up
abbrev pub IsPieceReason : PieceFault → Type 0
IsPieceReason piece_faults.Length = ⊤
IsPieceReason piece_faults.Padding = ⊤
IsPieceReason fault = ⊥

-- why something doesn't fit is never want of memory
abbrev pub IsReason : Unfit → Type 0
IsReason (unfit.View fault) = IsTellable fault
IsReason (unfit.Piece fault) = IsPieceReason fault
IsReason (unfit.Bytes fault) = fault ≢ packet_faults.Memory
IsReason unfit.Name = ⊤
IsReason (unfit.Heads region) = ⊤

-- a note never tells want of memory
abbrev pub IsNote : FollowNote → Type 0
IsNote (notes.Bad fault) = fault ≢ packet_faults.Memory
IsNote (notes.Unfit reason) = IsReason reason
IsNote note = ⊤

-- the notes at which nothing is logged or sent and nothing changes
abbrev pub IsIdle : FollowNote → Type 0
IsIdle (notes.Bad fault) = ⊤
IsIdle (notes.NotMine to) = ⊤
IsIdle (notes.Stale have given) = ⊤
IsIdle (notes.Early have given) = ⊤
IsIdle notes.Already = ⊤
IsIdle (notes.Unfit reason) = ⊤
IsIdle (notes.Unknown to) = ⊤
IsIdle notes.Nothing = ⊤
IsIdle notes.SeqSpent = ⊤
IsIdle notes.Spent = ⊤
IsIdle notes.Silent = ⊤
IsIdle notes.Idle = ⊤
IsIdle note = ⊥

-- what is logged and sent is well formed, and at an idle note there is none of it and the node stays as it is
pub record IsSound (plan : Plan) : Type 0 where
  pub entry : MatchOption plan.entry ⊤ IsEntry
  pub sends : AreSends plan.sends
  pub note : IsNote plan.note
  pub idle : IsIdle plan.note → plan ≡ only plan.note
