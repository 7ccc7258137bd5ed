-- What a node's log holds and what its link has sent, as bytes.
use Rattle.std.specs.Prelude.{◌≡◌, ℕ, ◌==◌, List, ◌++◌, map, Some, IsSomeAnd}
use Rattle.std.specs.List.{AllZip, filter}
use Rattle.cs_link.specs.Maps.{ById}
use Rattle.cs_link.specs.Sent.{Datagram}
use Rattle.cs_log.specs.Frames.{framed}
use Rattle.cs_packet.specs.EntryField.{entry_bytes}
use Rattle.cs_machine.specs.Contents.{contents_of}
use Rattle.cs_machine.specs.Entries.{Entry}
use Rattle.cs_machine.specs.Names.{Node, Sent, World, node_of}
use Rattle.cs_machine.specs.Packets.{bytes_of}
use Rattle.cs_machine.specs.Squares.{address_in}
use Rattle.cs_machine.specs.Values.{entry_for}

-- the entries of a node, each as it is spelled
abbrev pub spelled_entries : World → Node → List (List ℕ)
spelled_entries world node =
    map (λ (entry : Entry). entry_bytes (entry_for (contents_of world) entry)) node.entries

-- the log of a node: a frame for each of its entries, one behind the other, and what is torn
abbrev pub log_bytes : World → Node → List ℕ
log_bytes world node = framed (spelled_entries world node) ++ node.tail

-- a datagram for a packet: it goes to the address that the receiver was started with, and has the packet's bytes
pub record IsDatagramOf (world : World) (datagram : Datagram) (sent : Sent) : Type 0 where
  pub address : address_in world sent.to ≡ Some datagram.0
  pub bytes : datagram.1 ≡ bytes_of world sent

-- one for each packet, in order
abbrev pub AreDatagramsOf : World → List Datagram → List Sent → Type 0
AreDatagramsOf world datagrams sent = AllZip (IsDatagramOf world) datagrams sent

-- what a node sent
abbrev pub sent_from : World → ℕ → List Sent
sent_from world id = filter (λ (sent : Sent). sent.from == id) world.sent

-- by id, the log of each node
abbrev pub AreLogsOf : World → ById (List ℕ) → Type 0
AreLogsOf world logs =
    (id : ℕ) (node : Node) → node_of world id ≡ Some node → logs id ≡ Some (log_bytes world node)

-- by id, what each node sent
abbrev pub AreTrafficOf : World → ById (List Datagram) → Type 0
AreTrafficOf world traffic = (id : ℕ) (node : Node) → node_of world id ≡ Some node
    → IsSomeAnd (traffic id) (λ datagrams. AreDatagramsOf world datagrams (sent_from world id))
