-- A node that runs alone, as values: what it is, what its log has, and what it has sent. Nothing else is known of its
-- group than what its own view says, or, where it leads, its group.
use Rattle.std.specs.Prelude.{◌==◌, ℕ, List, [], ◌∷◌, ◌++◌, map, Option, None, Some, if◌then◌else◌}
use Rattle.std.specs.Option.{option_and_then, option_map_or}
use Rattle.cs_base.specs.Address.{Address}
use Rattle.cs_log.specs.Frames.{framed, placed}
use Rattle.cs_node.specs.Folding.{fold}
use Rattle.cs_node.specs.declared.folding.Folded.{Folded}
use Rattle.cs_node.specs.declared.node.Node.{Node}
use Rattle.cs_packet.specs.EntryField.{entry_bytes}
use Rattle.cs_packet.specs.declared.entry.Entry.{Entry}
use Rattle.cs_packet.specs.declared.own.Own.{Own}
use Rattle.cs_packet.specs.declared.packet.Packet.{Packet}
use Rattle.cs_world.specs.Sending.{bytes_in}
use Rattle.cs_world.specs.Starting.{boot_entry, started_as}
use Rattle.cs_world.specs.declared.home.Home.{Home}

-- a node as it was started; what it has become, unless it is down; its log's entries in the order in which they were
-- written, and the first bytes of one more, where its write was torn; after how many bytes the next write tears, if it
-- is to; and every packet that it sent, with where it went
pub record OneNode : Type 0 where
  pub own : Own
  pub node : Option Node
  pub entries : List Entry
  pub tail : List ℕ
  pub armed : Option ℕ
  pub sent : List (Address × Packet)

-- who leads, where a line has said it, and the node, where one was started
pub record Alone : Type 0 where
  pub home : Option Home
  pub node : Option OneNode

-- nobody has said who leads, and no node was started
abbrev pub nobody : Alone
nobody = record { home = None; node = None }

-- a node at its start, which logs how it started
abbrev pub starting : Own → OneNode
starting own = record {
  own = own;
  node = Some (started_as own);
  entries = boot_entry own ∷ [];
  tail = [];
  armed = None;
  sent = [];
}

-- the node, where it has this id
abbrev pub if_named : ℕ → OneNode → Option OneNode
if_named id n = if n.own.id == id then Some n else None

abbrev pub node_named : Alone → ℕ → Option OneNode
node_named alone id = option_and_then (if_named id) alone.node

-- its entries as they are spelled
abbrev pub payloads : OneNode → List (List ℕ)
payloads n = map entry_bytes n.entries

-- its log: a frame for each entry, one behind the other, and what is torn
abbrev pub log_of : OneNode → List ℕ
log_of n = framed (payloads n) ++ n.tail

-- what the whole frames of its log give; what is torn tells nothing
abbrev pub given_by : OneNode → Folded
given_by n = fold (placed 0 (payloads n))

-- every packet that was sent
abbrev pub all_sent : Alone → List (Address × Packet)
all_sent alone = option_map_or (λ (n : OneNode). n.sent) alone.node []

-- how many bytes they have
abbrev pub bytes_sent : Alone → ℕ
bytes_sent alone = bytes_in (all_sent alone)
