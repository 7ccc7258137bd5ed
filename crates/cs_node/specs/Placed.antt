-- A node in its place, with its link and its log. None runs there after a crash, and where its log failed.
use Rattle.std.specs.Prelude.{Option, None, Some, Result, Ok, Err}
use Rattle.cs_link.specs.declared.link.Link.{Ghosts as LinkGhosts}
use Rattle.cs_log.specs.declared.log.Log.{Ghosts as LogGhosts}
use Rattle.cs_node.specs.Calls.{Acts}
use Rattle.cs_node.specs.Told.{LinkTold, LogTold, link_told, log_told}
use Rattle.cs_node.specs.declared.acting.Carried.{Carried}
use Rattle.cs_node.specs.declared.effects.Effects.{Effects}
use Rattle.cs_node.specs.declared.node.Node.{Node}
use Rattle.cs_node.specs.declared.note.Note.{Note}
use Rattle.cs_node.specs.declared.stopped.Why.{Why}
use Rattle.cs_node.specs.declared.stopped.Why.TheVariants as why

pub record Placed (L G : Type 0) : Type 0 where
  pub node : Option Node
  pub link : L
  pub log : G

-- the node that runs, and none where it stopped
abbrev pub running : Result Node Why → Option Node
running (Ok node) = Some node
running (Err reason) = None

-- where none runs after a call, the log failed
abbrev pub status_after : Option Node → Result Node Why
status_after None = Err why.Log
status_after (Some node) = Ok node

-- a node did what it decided, as every call does
abbrev pub HasCarriedOut : Node → Effects → LinkTold → LogTold → Carried → LinkTold → LogTold → Type 0
HasCarriedOut node effects link log carried link_now log_now = Acts node effects link log carried.note
    (record { status = status_after carried.node; link = link_now; log = log_now })

-- so did the node that was there
abbrev pub HasActed : {L G : Type 0} → LinkGhosts L → LogGhosts G → Node → Effects → Placed L G → Note → Placed L G → Type 0
HasActed link log node effects before note now = HasCarriedOut node effects (link_told link before.link)
    (log_told log before.log) (record { node = now.node; note = note }) (link_told link now.link) (log_told log now.log)
