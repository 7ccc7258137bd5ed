-- How a node starts: what it is, what it logs, and what its seat tells.
use Rattle.std.specs.Prelude.{◌≡◌, ◌==◌, [], Option, None, Some, Result, Ok, Err, IfSome, if◌then◌else◌}
use Rattle.cs_core.specs.Node.{joining}
use Rattle.cs_lead.specs.Leading.{begun}
use Rattle.cs_log.specs.declared.armed.Tear.TheVariants.{Nothing}
use Rattle.cs_node.specs.Appending.{entry_frame}
use Rattle.cs_node.specs.declared.node.Node.{Node}
use Rattle.cs_node.specs.declared.node.Node.TheVariants as nodes
use Rattle.cs_node.specs.declared.stopped.Why.{Why}
use Rattle.cs_node.specs.declared.stopped.Why.TheVariants as why
use Rattle.cs_packet.specs.Own.{member_of_own}
use Rattle.cs_packet.specs.declared.entry.Entry.{Entry}
use Rattle.cs_packet.specs.declared.entry.Entry.TheVariants.{Boot}
use Rattle.cs_packet.specs.declared.own.Own.{Own}
use Rattle.cs_world.specs.Processes.{Parts}
use Rattle.cs_world.specs.declared.fault.WorldFault.{WorldFault}
use Rattle.cs_world.specs.declared.fault.WorldFault.TheVariants.{Log, Memory}

-- the leader begins, and another node is joining
abbrev pub started_as : Own → Node
started_as own =
    if own.id == own.leader then nodes.Leader (begun (member_of_own own)) else nodes.Follower (joining own)

-- its first entry
abbrev pub boot_entry : Own → Entry
boot_entry own = Boot (own.id == own.leader) own

-- a node at its start: it has logged its first entry and sent nothing
pub record StartsAs (own : Own) (parts : Parts) : Type 0 where
  pub node : parts.node ≡ Some (started_as own)
  pub sent : parts.link.sent ≡ Some []
  pub link_faults : parts.link.faults ≡ 0
  pub taken : parts.link.taken ≡ 0
  pub dry : parts.link.dry ≡ 0
  pub bytes : IfSome parts.log.bytes (λ bytes. bytes ≡ entry_frame (boot_entry own))
  pub own_faults : parts.log.own_faults ≡ 0
  pub unarmed : parts.log.tear ≡ Nothing

-- why a node stopped at its start, if it did
abbrev pub start_fault : Result Node Why → Option WorldFault
start_fault (Ok node) = None
start_fault (Err why.Log) = Some Log
start_fault (Err reason) = Some Memory
