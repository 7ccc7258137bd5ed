-- What a call does, by its answer, to the node, its link and its log, whatever of them fails.
use Rattle.std.specs.Prelude.{◌≡◌, ◌≢◌, ◌⊎◌, ℕ, ◌+◌, nat_le, if◌then◌else◌, List, length, Option, None, Some, IfSome}
use Rattle.std.specs.Prelude.{unwrap_or, Result, Ok, Err}
use Rattle.cs_link.specs.declared.link.Link.{Ghosts as LinkGhosts}
use Rattle.cs_log.specs.Crash.{MayBeLeft}
use Rattle.cs_log.specs.declared.log.Log.{Ghosts as LogGhosts}
use Rattle.cs_packet.specs.declared.entry.Entry.{Entry}
use Rattle.cs_node.specs.Appending.{entry_frame, IsKept, IsLost, IsSynced}
use Rattle.cs_node.specs.Folding.{FoldsTo}
use Rattle.cs_node.specs.Logged.{restarted}
use Rattle.cs_node.specs.Posting.{AreSent, SendsFront, datagrams_of}
use Rattle.cs_node.specs.Running.{Running}
use Rattle.cs_node.specs.Sound.{IsSound}
use Rattle.cs_node.specs.States.{link_of, log_of, status_of}
use Rattle.cs_node.specs.Told.{LinkTold, LogTold, link_told, log_told}
use Rattle.cs_node.specs.declared.after.After.{After}
use Rattle.cs_node.specs.declared.effects.Effects.{Effects}
use Rattle.cs_node.specs.declared.folding.Folded.TheVariants.{Gives}
use Rattle.cs_node.specs.declared.node.Node.{Node}
use Rattle.cs_node.specs.declared.note.Note.{Note}
use Rattle.cs_node.specs.declared.note.Note.TheVariants as notes
use Rattle.cs_node.specs.declared.state.State.{State}
use Rattle.cs_node.specs.declared.stopped.Why.{Why}
use Rattle.cs_node.specs.declared.stopped.Why.TheVariants as why

-- what the node is after a call
abbrev pub node_after : Node → Effects → Node
node_after node effects = unwrap_or effects.after node

-- a node that runs, or why it stopped, with what its link and its log tell
pub record Ends : Type 0 where
  pub status : Result Node Why
  pub link : LinkTold
  pub log : LogTold

-- the entry is kept, and the node is the next one
abbrev pub GoesOn : Node → Effects → LogTold → Ends → Type 0
GoesOn node effects log now = (now.status ≡ Ok (node_after node effects)) × IsKept effects.entry log now.log

-- all was done that was decided
abbrev pub IsDone : Node → Effects → LinkTold → LogTold → Note → Ends → Type 0
IsDone node effects link log note now =
    (note ≡ effects.note) × GoesOn node effects log now × AreSent (datagrams_of effects.sends) link now.link

-- the link failed: the entry is kept, the node is the next one, and the first n packets were sent
abbrev pub HasLinkFault : Node → Effects → LinkTold → LogTold → Note → Ends → Type 0
HasLinkFault node effects link log note now = (n : ℕ) × (note ≡ notes.LinkFault n) × GoesOn node effects log now
    × SendsFront n (datagrams_of effects.sends) link now.link

-- the log failed: the entry isn't kept, the node stopped, and nothing was sent
abbrev pub HasLogFault : Effects → LinkTold → LogTold → Note → Ends → Type 0
HasLogFault effects link log note now =
    (note ≡ notes.LogFault) × (now.status ≡ Err why.Log) × (now.link ≡ link) × IsLost effects.entry log now.log

-- memory was wanting: all is as before
abbrev pub HasNoMemory : Node → LinkTold → LogTold → Note → Ends → Type 0
HasNoMemory node link log note now =
    (note ≡ notes.Memory) × (now.status ≡ Ok node) × (now.link ≡ link) × (now.log ≡ log)

-- how a call ended, by its answer; that of a decision is none of the other three
abbrev pub HasEnded : Node → Effects → LinkTold → LogTold → Note → Ends → Type 0
HasEnded node effects link log note now =
    IsDone node effects link log note now ⊎ HasLinkFault node effects link log note now
    ⊎ HasLogFault effects link log note now ⊎ HasNoMemory node link log note now

-- how many bytes the frame of an entry has; none where there is none
abbrev pub frame_length : Option Entry → ℕ
frame_length None = 0
frame_length (Some entry) = length (entry_frame entry)

-- the node that a front of a log leads to, where the entry wasn't kept, by what the log had before: the next one where
-- the whole frame is there, else the one before
abbrev pub left_by : Node → Effects → (before left : List ℕ) → Node
left_by node effects before left =
    if nat_le (length before + frame_length effects.entry) (length left) then node_after node effects else node

-- what a crash leaves gives the node that runs; or where it stopped, the one before, or the next one where the whole
-- frame of the entry is left
abbrev pub GivesAgain : Node → Effects → Option (List ℕ) → Result Node Why → List ℕ → Type 0
GivesAgain node effects told (Ok running) left = FoldsTo left (Gives (restarted running))
GivesAgain node effects told (Err reason) left =
    IfSome told (λ before. FoldsTo left (Gives (restarted (left_by node effects before left))))

-- so it is with whatever a crash leaves of the log, by what it told before, where it tells its bytes
abbrev pub ComesBack : Node → Effects → Option (List ℕ) → Ends → Type 0
ComesBack node effects told now = IfSome now.log.bytes (λ bytes. (left : List ℕ)
    → MayBeLeft now.log.synced bytes left → GivesAgain node effects told now.status left)

-- nothing was sent, or all that the log has is synced
abbrev pub IsSentAfterSync : LinkTold → Ends → Type 0
IsSentAfterSync link now = (now.link.sent ≡ link.sent) ⊎ IsSynced now.log

-- what every call keeps to, from a node with its link and its log, by what was decided; unless memory was wanting,
-- that is well formed
pub record Acts (node : Node) (effects : Effects) (link : LinkTold) (log : LogTold) (note : Note) (now : Ends) : Type 0
  where
    pub ended : HasEnded node effects link log note now
    pub comes_back : ComesBack node effects log.bytes now
    pub synced_first : IsSentAfterSync link now
    pub sound : note ≢ notes.Memory → IsSound effects

-- the node of a state, with what its link and its log tell
abbrev pub ends_in : {L G : Type 0} → LinkGhosts L → LogGhosts G → State L G → Ends
ends_in link log state = record {
  status = status_of state;
  link = link_told link (link_of state);
  log = log_told log (log_of state);
}

-- so does a call on a running node, of any link and log
abbrev pub IsCall : {L G : Type 0} → LinkGhosts L → LogGhosts G → Running L G → Effects → After L G → Type 0
IsCall link log s effects result =
    Acts s.node effects (link_told link s.link) (log_told log s.log) result.note (ends_in link log result.node)
