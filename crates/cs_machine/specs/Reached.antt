-- What every world that is reached from the empty one keeps: of its nodes, of the changes under way, and of packets.
use Rattle.std.specs.Prelude.{◌≡◌, ◌≢◌, ℕ, ◌+◌, ◌-◌, ◌*◌, ◌≤◌, ◌<◌, true, List, [], length, Some, None}
use Rattle.std.specs.Prelude.{IfSome, IsSomeAnd}
use Rattle.std.specs.List.{AllByRecursion}
use Rattle.cs_base.specs.Address.{Address}
use Rattle.cs_base.specs.Ascending.{IsAscending, IsAscendingBy}
use Rattle.cs_base.specs.Limits.{colours, last_id, last_number}
use Rattle.cs_base.specs.Ranges.{IsChange, IsMember}
use Rattle.cs_base.specs.declared.member.Member.{Member}
use Rattle.cs_base.specs.declared.change.Change.{Change}
use Rattle.cs_base.specs.declared.change.Change.TheVariants.{Join, Move, Leave}
use Rattle.cs_fields.specs.Changes.{IsChanges}
use Rattle.cs_group.specs.Group.{GroupState, IsGroup, is_among}
use Rattle.cs_group.specs.History.{group_at}
use Rattle.cs_group.specs.Led.{IsLedBy}
use Rattle.cs_group.specs.Rows.{regions}
use Rattle.cs_packet.specs.EntryField.{IsEntry}
use Rattle.cs_packet.specs.declared.own.Own.{Own}
use Rattle.cs_packet.specs.Own.{member_of_own}
use Rattle.cs_packet.specs.PacketField.{IsPacket}
use Rattle.cs_pending.specs.Reportable.{CanBeReported}
use Rattle.cs_machine.specs.Answers.{has_node}
use Rattle.cs_machine.specs.Contents.{contents_of, group_of, items}
use Rattle.cs_machine.specs.Entries.{Entry}
use Rattle.cs_machine.specs.Entries as entries
use Rattle.cs_machine.specs.Held.{all_colours, colours_in}
use Rattle.cs_machine.specs.Names.{Item, Name, Report, Piece, Need, Slice, Ask, Snap, Bye, Sent, State}
use Rattle.cs_machine.specs.Names.{Joining, Following, Leading, Left, Membership, Node, Past, World}
use Rattle.cs_machine.specs.Names.{empty_world, node_of, leader_of}
use Rattle.cs_machine.specs.Packets.{packet_for}
use Rattle.cs_machine.specs.Restoring.{lasting, restored}
use Rattle.cs_machine.specs.Values.{entry_for}

-- the member is a node of the world, with the values that it was started with
pub record IsNodeMember (world : World) (m : Member) : Type 0 where
  pub node : Node
  pub found : node_of world m.id ≡ Some node
  pub same : m ≡ member_of_own node.own

-- a change that is under way has values that are allowed, and lets in a node of the world
abbrev pub IsAsked : World → Change → Type 0
IsAsked world (Join member) = IsNodeMember world member
IsAsked world (Move id seq at) = IsChange (Move id seq at)
IsAsked world (Leave id) = IsChange (Leave id)

abbrev pub AreAsked : World → List Change → Type 0
AreAsked world changes = AllByRecursion (IsAsked world) changes

-- pending changes can be reported, and are under way
pub record CanWait (world : World) (pending : List Change) : Type 0 where
  pub reportable : CanBeReported pending
  pub asked : AreAsked world pending

-- these are some regions of the group, ascending
pub record AreRegionsOf (group : GroupState) (known : List ℕ) : Type 0 where
  pub ascending : IsAscending known
  pub there : AllByRecursion (λ region. is_among (regions group.rows) region ≡ true) known

-- where a held piece stands in the order
abbrev pub order_of : ℕ × ℕ → ℕ
order_of pair = colours * pair.0 + pair.1

-- held pieces are of an epoch that has begun and of regions of the group before; of each region none, one, two or four
pub record AreHeld (world : World) (epoch : ℕ) (held : List (ℕ × ℕ)) : Type 0 where
  pub ascending : IsAscendingBy order_of held
  pub begun : held ≢ [] → epoch < length (items world)
  pub there : AllByRecursion (λ (pair : ℕ × ℕ). is_among (regions (group_of world epoch).rows) pair.0 ≡ true) held
  pub colours : AllByRecursion (λ (pair : ℕ × ℕ). pair.1 < colours) held
  pub whole : (region : ℕ) → 2 < length (colours_in region held) → colours_in region held ≡ all_colours

-- the slices by which a member came to its epoch are of regions of the group before; none brings one to epoch 0
pub record AreUsed (world : World) (epoch : ℕ) (used : List ℕ) : Type 0 where
  pub later : used ≢ [] → 0 < epoch
  pub regions : AreRegionsOf (group_of world (epoch - 1)) used

-- before its epoch a member knew regions of the group before
pub record IsPast (world : World) (epoch : ℕ) (past : Past) : Type 0 where
  pub later : 0 < epoch
  pub known : AreRegionsOf (group_of world (epoch - 1)) past.known

-- what a member has fits the items
pub record MemberFits (world : World) (m : Membership) : Type 0 where
  pub epoch : m.epoch ≤ length (items world)
  pub known : AreRegionsOf (group_of world m.epoch) m.known
  pub held : AreHeld world m.epoch m.held
  pub used : AreUsed world m.epoch m.used
  pub pending : CanWait world m.pending
  pub seq : m.seq ≤ last_id
  pub past : IfSome m.past (IsPast world m.epoch)

-- who leads is the leader, at the last epoch
pub record LeaderFits (world : World) (own : Own) (epoch : ℕ) (pending : List Change) : Type 0 where
  pub last : epoch ≡ length (items world)
  pub leads : own.id ≡ own.leader
  pub waiting : CanWait world pending

-- the state of a node fits the world
abbrev pub StateFits : World → Own → State → Type 0
StateFits world own Joining = Unit {0}
StateFits world own (Following m) = MemberFits world m
StateFits world own (Leading epoch pending) = LeaderFits world own epoch pending
StateFits world own Left = Unit {0}

-- what an entry names is of an epoch so far and of regions of its group, or of the group before
abbrev pub EntryFits : World → Entry → Type 0
EntryFits world (entries.Boot own) = Unit {0}
EntryFits world (entries.Seq seq at) = Unit {0}
EntryFits world (entries.View epoch regions) =
    (epoch ≤ length (items world)) × AreRegionsOf (group_of world epoch) regions
EntryFits world (entries.Step epoch used) =
    (0 < epoch) × (epoch ≤ length (items world)) × AreRegionsOf (group_of world (epoch - 1)) used
EntryFits world (entries.Gone epoch) = Unit {0}
EntryFits world (entries.Item epoch changes anew) = epoch - 1 ≤ length (items world)

-- so an entry of a log does, and it stands for one that is well formed
pub record IsLogged (world : World) (entry : Entry) : Type 0 where
  pub fits : EntryFits world entry
  pub formed : IsEntry (entry_for (contents_of world) entry)

-- a node in a state: it fits, it is but for what a restart loses what the log's entries lead to, and nothing is torn
pub record IsUp (world : World) (node : Node) (state : State) : Type 0 where
  pub fits : StateFits world node.own state
  pub lasts : lasting state ≡ restored (contents_of world) node.own node.entries
  pub whole : node.tail ≡ []

-- the node's values are allowed, it knows who leads and where, its log's entries fit, and so does what they lead to
pub record IsStarted (world : World) (node : Node) : Type 0 where
  pub allowed : IsMember (member_of_own node.own)
  pub leader : Node
  pub led : leader_of world ≡ Some leader
  pub leader_id : leader.own.id ≡ node.own.leader
  pub leader_addr : leader.own.addr ≡ node.own.leader_addr
  pub entries : AllByRecursion (IsLogged world) node.entries
  pub restores : StateFits world node.own (restored (contents_of world) node.own node.entries)
  pub state : IfSome node.state (IsUp world node)

-- a piece is of an epoch so far, and of a region of the group before
pub record IsPieceOf (world : World) (epoch region colour : ℕ) : Type 0 where
  pub later : 0 < epoch
  pub begun : epoch ≤ length (items world)
  pub there : is_among (regions (group_of world (epoch - 1)).rows) region ≡ true
  pub below : colour < colours

-- a snapshot is of an epoch so far, with regions of its group, one of which has the receiver
pub record IsSnapshotOf (world : World) (to epoch : ℕ) (known : List ℕ) : Type 0 where
  pub begun : epoch ≤ length (items world)
  pub regions : AreRegionsOf (group_of world epoch) known
  pub there : has_node (group_of world epoch) to known ≡ true

-- who asks gives the address that it was started with
pub record IsAsker (world : World) (from : ℕ) (addr : Address) : Type 0 where
  pub node : Node
  pub found : node_of world from ≡ Some node
  pub same : node.own.addr ≡ addr

-- a slice is of an epoch so far, and of a region of the group before
pub record IsSliceOf (world : World) (epoch region : ℕ) : Type 0 where
  pub later : 0 < epoch
  pub begun : epoch ≤ length (items world)
  pub there : is_among (regions (group_of world (epoch - 1)).rows) region ≡ true

-- what a name that one node sent another stands for
abbrev pub NameStands : World → ℕ → ℕ → Name → Type 0
NameStands world from to (Report changes) = IsChanges 1 changes × AreAsked world changes
NameStands world from to (Piece epoch region colour) = IsPieceOf world epoch region colour
NameStands world from to (Need addr mode epoch region) = IsAsker world from addr
NameStands world from to (Slice epoch region) = IsSliceOf world epoch region
NameStands world from to (Ask addr mode least) = IsAsker world from addr
NameStands world from to (Snap epoch known) = IsSnapshotOf world to epoch known
NameStands world from to (Bye epoch) = epoch ≤ length (items world)

-- the name stands for a packet, whose receiver is there
pub record IsSent (world : World) (sent : Sent) : Type 0 where
  pub node : Node
  pub receiver : node_of world sent.to ≡ Some node
  pub name : NameStands world sent.from sent.to sent.name
  pub packet : IsPacket (packet_for (contents_of world) sent)

-- the group of a leader: within its bounds, and led by it
pub record IsGroupOf (m : Member) (g : GroupState) : Type 0 where
  pub group : IsGroup g
  pub led : IsLedBy m g

-- there is a group at each epoch so far
abbrev pub IsHistory : Member → List Item → Type 0
IsHistory leader given =
    (epoch : ℕ) → epoch ≤ length given → IsSomeAnd (group_at leader given epoch) (IsGroupOf leader)

-- nobody leads in the empty world alone; each node is a started one; the leader is found by its id; there are groups
-- so far; each item is of changes that were under way, few and about distinct members; each sent name is a packet's,
-- and no number beyond theirs is one that settling passes over, or of a packet that was delivered
pub record IsReached (world : World) : Type 0 where
  pub started : leader_of world ≡ None → world ≡ empty_world
  pub nodes : (id : ℕ) (node : Node) → node_of world id ≡ Some node → IsStarted world node
  pub found : (leader : Node) → leader_of world ≡ Some leader → node_of world leader.own.id ≡ Some leader
  pub history : (leader : Node) → leader_of world ≡ Some leader → IsHistory (member_of_own leader.own) (items world)
  pub asked : AllByRecursion (AreAsked world) (items world)
  pub few : AllByRecursion (IsChanges 0) (items world)
  pub epochs : length (items world) ≤ last_number
  pub sent : AllByRecursion (IsSent world) world.sent
  pub settled : AllByRecursion (λ number. number ≤ length world.sent) world.settled
  pub delivered : AllByRecursion (λ number. number ≤ length world.sent) world.delivered
