-- How a node starts.
use Rattle.std.specs.Prelude.{◌≡◌, ◌⊎◌, ℕ, List, IfSome}
use Rattle.cs_base.specs.declared.change.Mode.TheVariants.{Full}
use Rattle.cs_base.specs.declared.member.Member.{Member}
use Rattle.cs_log.specs.Crash.{MayBeLeft}
use Rattle.cs_packet.specs.declared.entry.Entry.{Entry}
use Rattle.cs_packet.specs.declared.own.Own.{Own}
use Rattle.cs_node.specs.Appending.{entry_frame, FailsToKeep}
use Rattle.cs_node.specs.Folding.{FoldsTo}
use Rattle.cs_node.specs.Told.{LogTold}
use Rattle.cs_node.specs.declared.folding.Folded.TheVariants.{Gives, Empty}
use Rattle.cs_node.specs.declared.node.Node.{Node}
use Rattle.cs_node.specs.declared.stopped.Why.{Why}
use Rattle.cs_node.specs.declared.stopped.Why.TheVariants as why

-- who the leader is: it leads itself, and wants to know every region
abbrev pub as_own : Member → Own
as_own me = record {
  id = me.id;
  addr = me.addr;
  at = me.at;
  mode = Full;
  leader = me.id;
  leader_addr = me.addr;
}

-- the entry of a start isn't kept, by the reason: the log failed, or all is as before
abbrev pub HasNotBooted : Entry → Why → (before now : LogTold) → Type 0
HasNotBooted entry why.Log before now = FailsToKeep (entry_frame entry) before now
HasNotBooted entry why.Memory before now = now ≡ before
HasNotBooted entry reason before now = ⊥

-- whatever a crash leaves gives no node, or the one that started
abbrev pub StartsAgain : Node → LogTold → Type 0
StartsAgain node log = IfSome log.bytes (λ bytes. (left : List ℕ) → MayBeLeft log.synced bytes left
    → FoldsTo left Empty ⊎ FoldsTo left (Gives node))
