-- The machine's world. What a node holds, logs and sends are names: epochs, regions, colours, changes. What a name
-- stands for is computed from the items, which are the changes that the leader's log accepts.
use Rattle.std.specs.Prelude.{ℕ, List, [], Option, ◌==◌}
use Rattle.std.specs.List.{find}
use Rattle.cs_base.specs.Address.{Address}
use Rattle.cs_base.specs.declared.change.Change.{Change}
use Rattle.cs_base.specs.declared.change.Mode.{Mode}
use Rattle.cs_packet.specs.declared.own.Own.{Own}
use Rattle.cs_machine.specs.Entries.{Entry}

-- what is accepted at the close of an epoch
abbrev pub Item : Type 0
Item = List Change

-- a packet's name: a report of changes; a piece of the slice of an epoch and a region, by its colour; a request
-- for such a slice; the slice; a request for a snapshot of an epoch that is at least so late; the snapshot of an
-- epoch with the rolls of some regions; a bye at an epoch
pub data Name : Type 0 where
  Report : (changes : List Change) → Name
  Piece : (epoch region colour : ℕ) → Name
  Need : (addr : Address) → (mode : Mode) → (epoch region : ℕ) → Name
  Slice : (epoch region : ℕ) → Name
  Ask : (addr : Address) → (mode : Mode) → (least : ℕ) → Name
  Snap : (epoch : ℕ) → (regions : List ℕ) → Name
  Bye : (epoch : ℕ) → Name

-- who sent whom which packet
pub record Sent : Type 0 where
  pub from : ℕ
  pub to : ℕ
  pub name : Name

-- the regions that a member knew at the epoch before its own, and the region and colour of each piece of its epoch
-- that it had or passed on
pub record Past : Type 0 where
  pub known : List ℕ
  pub had : List (ℕ × ℕ)

-- what a member has: its epoch and the regions that it knows; the region and colour of each piece of the next epoch
-- that it holds; the regions whose slices brought it to its epoch; its pending changes, the number of its last move,
-- and its past, after a step
pub record Membership : Type 0 where
  pub epoch : ℕ
  pub known : List ℕ
  pub held : List (ℕ × ℕ)
  pub used : List ℕ
  pub pending : List Change
  pub seq : ℕ
  pub past : Option Past

-- a node joins, is a member, leads at an epoch, or has left
pub data State : Type 0 where
  Joining : State
  Following : (m : Membership) → State
  Leading : (epoch : ℕ) → (pending : List Change) → State
  Left : State

-- a node as it was started; what it has become, unless it is down; its log's entries in the order in which they were
-- written, and the first bytes of one more, where its write was torn; and after how many bytes the next write tears,
-- if it is to
pub record Node : Type 0 where
  pub own : Own
  pub state : Option State
  pub entries : List Entry
  pub tail : List ℕ
  pub armed : Option ℕ

-- the nodes in the order in which they were started, everything that was ever sent, and the numbers of the packets
-- that settling passes over, and of those that were delivered
pub record World : Type 0 where
  pub nodes : List Node
  pub sent : List Sent
  pub settled : List ℕ
  pub delivered : List ℕ

-- no node was started
abbrev pub empty_world : World
empty_world = record { nodes = []; sent = []; settled = []; delivered = [] }

-- the node with this id
abbrev pub node_of : World → ℕ → Option Node
node_of world id = find (λ (n : Node). n.own.id == id) world.nodes

-- the leader's node
abbrev pub leader_of : World → Option Node
leader_of world = find (λ (n : Node). n.own.id == n.own.leader) world.nodes
