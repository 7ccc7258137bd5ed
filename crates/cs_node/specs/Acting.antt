-- What a decision has to be so that a log can carry it, and what is prepared before it is carried out.
use Rattle.std.specs.Prelude.{◌≡◌, ◌⊎◌, ◌≤◌, ◌<◌, ◌^◌, ⊤, ℕ, List, length, Option, Some, None}
use Rattle.std.specs.declared.vec.Vec.{Vec}
use Rattle.cs_link.specs.Room.{HasRoom, Room}
use Rattle.cs_link.specs.Sent.{Datagram}
use Rattle.cs_packet.specs.declared.entry.Entry.{Entry}
use Rattle.cs_node.specs.Appending.{entry_frame}
use Rattle.cs_node.specs.Calls.{node_after}
use Rattle.cs_node.specs.Folding.{after_entry}
use Rattle.cs_node.specs.Logged.{restarted}
use Rattle.cs_node.specs.Posting.{AreSent, bytes_in, datagrams_of, SendsFront}
use Rattle.cs_node.specs.Sound.{IsSound}
use Rattle.cs_node.specs.Told.{LinkTold}
use Rattle.cs_node.specs.declared.acting.Prepared.{Prepared}
use Rattle.cs_node.specs.declared.effects.Effects.{Effects}
use Rattle.cs_node.specs.declared.node.Node.{Node}
use Rattle.cs_node.specs.declared.note.Note.{Note}
use Rattle.cs_node.specs.declared.note.Note.TheVariants as notes

-- the entry leads a log on to the node after; with none a restart brings back the same node before and after
abbrev pub LeadsOn : Node → Option Entry → Node → Type 0
LeadsOn node None after = restarted after ≡ restarted node
LeadsOn node (Some entry) after = after_entry (restarted node) entry ≡ Some (restarted after)

-- a decision that is well formed, and that a log can carry
pub record IsDecision (node : Node) (effects : Effects) : Type 0 where
  pub sound : IsSound effects
  pub leads : LeadsOn node effects.entry (node_after node effects)

-- the frame of an entry, for which there is room; none where there is none
abbrev pub IsFrameOf : {A : Type 0} → Option Entry → Option (Vec ℕ A) → ℕ → Type 0
IsFrameOf None None room = ⊤
IsFrameOf (Some entry) (Some bytes) room = (bytes.items ≡ entry_frame entry) × (length bytes.items ≤ room)
IsFrameOf entry frame room = ⊥

-- the frame and the datagrams of effects, for which log and link have room
pub record IsPrepared (effects : Effects) (room_in_log : ℕ) (room_on_link : Room) (prepared : Prepared) : Type 0 where
  pub frame : IsFrameOf effects.entry prepared.frame room_in_log
  pub datagrams : prepared.datagrams.items ≡ datagrams_of effects.sends
  pub counted : length prepared.datagrams.items < 2 ^ 32
  pub room : HasRoom (length prepared.datagrams.items) (bytes_in prepared.datagrams.items) room_on_link

-- all datagrams were sent, and the answer is that of the decision; or the first n, and the answer says so
abbrev pub HasSent : Note → List Datagram → LinkTold → Note → LinkTold → Type 0
HasSent note datagrams link note_now link_now =
    ((note_now ≡ note) × AreSent datagrams link link_now)
    ⊎ ((n : ℕ) × (note_now ≡ notes.LinkFault n) × SendsFront n datagrams link link_now)
