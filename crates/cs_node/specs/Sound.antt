-- What the effects of every node keep to, whatever the bytes.
use Rattle.std.specs.Prelude.{◌≡◌, ◌≢◌, ⊤, MatchOption}
use Rattle.cs_core.specs.Sound.{IsReason}
use Rattle.cs_fields.specs.declared.fault.PacketFault.TheVariants as packet_faults
use Rattle.cs_packet.specs.EntryField.{IsEntry}
use Rattle.cs_packet.specs.PacketField.{AreSends}
use Rattle.cs_node.specs.Effects.{quiet}
use Rattle.cs_node.specs.declared.effects.Effects.{Effects}
use Rattle.cs_node.specs.declared.note.Note.{Note}
use Rattle.cs_node.specs.declared.note.Note.TheVariants as notes

-- a note of a decision never tells want of memory, or a fault of a link or a log
abbrev pub IsNote : Note → Type 0
IsNote (notes.Bad fault) = fault ≢ packet_faults.Memory
IsNote (notes.Unfit reason) = IsReason reason
IsNote (notes.LinkFault sent) = ⊥
IsNote notes.LogFault = ⊥
IsNote notes.Memory = ⊥
IsNote note = ⊤

-- the notes at which nothing is logged or sent and nothing changes
abbrev pub IsIdle : Note → Type 0
IsIdle (notes.Bad fault) = ⊤
IsIdle (notes.NotMine to) = ⊤
IsIdle (notes.Stale have given) = ⊤
IsIdle (notes.Early have given) = ⊤
IsIdle notes.Already = ⊤
IsIdle (notes.Unfit reason) = ⊤
IsIdle (notes.Unknown to) = ⊤
IsIdle notes.Nothing = ⊤
IsIdle notes.SeqSpent = ⊤
IsIdle notes.Spent = ⊤
IsIdle notes.Silent = ⊤
IsIdle notes.Idle = ⊤
IsIdle note = ⊥

-- what is logged and sent is well formed, and at an idle note there is none of it and the node stays as it is
pub record IsSound (effects : Effects) : Type 0 where
  pub entry : MatchOption effects.entry ⊤ IsEntry
  pub sends : AreSends effects.sends
  pub note : IsNote effects.note
  pub idle : IsIdle effects.note → effects ≡ quiet effects.note
