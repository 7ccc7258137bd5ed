-- The code's nodes stand for a world of the machine: node by node, packet by packet.
use Rattle.std.specs.Prelude.{◌≡◌, ⊤, ℕ, ◌<◌, ◌||◌, ◌⊎◌, Option, Some, None, is_some, List, [], ◌++◌}
use Rattle.std.specs.Prelude.{Result, IfOk, IfErr, IfSome, IsSomeAnd}
use Rattle.std.specs.String.{string_bytes}
use Rattle.std.specs.declared.string.String.{String}
use Rattle.std.specs.declared.vec.Vec.{Vec}
use Rattle.std.specs.Option.{option_map}
use Rattle.cs_base.specs.Address.{Address}
use Rattle.cs_base.specs.Limits.{most_sent}
use Rattle.cs_link.specs.declared.link.Link.{Ghosts as LinkGhosts}
use Rattle.cs_log.specs.Frames.{IsTorn}
use Rattle.cs_log.specs.declared.log.Log.{Ghosts as LogGhosts}
use Rattle.cs_node.specs.Folding.{FoldsTo}
use Rattle.cs_node.specs.Told.{LinkTold, LogTold}
use Rattle.cs_node.specs.declared.folding.Folded.TheVariants.{Gives}
use Rattle.cs_node.specs.declared.node.Node.{Node as ANode}
use Rattle.cs_script.specs.declared.event.Event.{Event}
use Rattle.cs_script.specs.declared.event.Event.TheVariants as events
use Rattle.cs_show.specs.Text.{text_of}
use Rattle.cs_machine.specs.Contents.{contents_of}
use Rattle.cs_machine.specs.Happens.{is_used}
use Rattle.cs_machine.specs.Names.{Node, World, node_of, leader_of}
use Rattle.cs_machine.specs.Outcome.{After}
use Rattle.cs_machine.specs.Packets.{bytes_sent}
use Rattle.cs_machine.specs.Reached.{IsReached}
use Rattle.cs_machine.specs.Restoring.{restored}
use Rattle.cs_machine.specs.Squares.{address_in}
use Rattle.cs_machine.specs.Values.{node_for}
use Rattle.cs_world.specs.Actions.{tear_for}
use Rattle.cs_world.specs.Addresses.{address_under, id_under}
use Rattle.cs_world.specs.Happening.{CanBeTold}
use Rattle.cs_world.specs.Kept.{AreDatagramsOf, log_bytes, sent_from}
use Rattle.cs_world.specs.Processes.{Parts}
use Rattle.cs_world.specs.Seats.{Seated, parts_at, link_faults_of, log_faults_of}
use Rattle.cs_world.specs.Sent.{TrafficStands}
use Rattle.cs_world.specs.declared.action.Action.TheVariants.{Restart}
use Rattle.cs_world.specs.declared.fault.WorldFault.{WorldFault}
use Rattle.cs_world.specs.declared.fault.WorldFault.TheVariants as faults
use Rattle.cs_world.specs.declared.nodes.Nodes.{Nodes}

-- what a node of the machine is in the code, unless it is down
abbrev pub value_of : World → Node → Option ANode
value_of world node = option_map (node_for (contents_of world) node.own) node.state

-- and what a restart brings back of it
abbrev pub restored_value : World → Node → ANode
restored_value world node =
    node_for (contents_of world) node.own (restored (contents_of world) node.own node.entries)

-- a link has sent what the node sent, and never failed; what it received is told by events
pub record LinkStands (world : World) (id : ℕ) (link : LinkTold) : Type 0 where
  pub sent : IsSomeAnd link.sent (λ datagrams. AreDatagramsOf world datagrams (sent_from world id))
  pub faults : link.faults ≡ 0

-- a log, where it tells, has the frames of the node's entries and less than one more frame; it never failed by itself,
-- and is armed as the node is
pub record LogStands (world : World) (node : Node) (log : LogTold) : Type 0 where
  pub bytes : IfSome log.bytes (λ bytes. bytes ≡ log_bytes world node)
  pub torn : IsTorn node.tail
  pub own_faults : log.own_faults ≡ 0
  pub armed : log.tear ≡ tear_for node.armed

-- what the code has for a node: the node, where it is up, with its link and its log. Where it is down its log, where
-- that tells, brings back what the node's entries lead to
pub record NodeStands (world : World) (n : Node) (parts : Parts) : Type 0 where
  pub node : parts.node ≡ value_of world n
  pub link : LinkStands world n.own.id parts.link
  pub log : LogStands world n parts.log
  pub back : n.state ≡ None → IfSome parts.log.bytes (λ bytes. FoldsTo bytes (Gives (restored_value world n)))

-- there is a node, and the code has it; or neither
abbrev pub StandsIf : World → Option Node → Option Parts → Type 0
StandsIf world None None = ⊤
StandsIf world None (Some parts) = ⊥
StandsIf world (Some node) None = ⊥
StandsIf world (Some node) (Some parts) = NodeStands world node parts

-- the id of the node with the address
abbrev pub id_at : {L G : Type 0} → Nodes L G → Address → Option ℕ
id_at code addr = id_under code.addresses addr

-- the address of the node with the id
abbrev pub address_of : {L G : Type 0} → Nodes L G → ℕ → Option Address
address_of code id = address_under code.addresses id

-- node by node and packet by packet, with the same ids and addresses in use and the same leader, for a world that is
-- reached, in which who isn't there has sent nothing
pub record Stands {L G : Type 0} (link : LinkGhosts L) (log : LogGhosts G) (code : Nodes L G) (world : World) : Type 0
  where
    pub nodes : (id : ℕ) → StandsIf world (node_of world id) (parts_at link log code.seats id)
    pub leader : code.leader ≡ option_map (λ (n : Node). n.own) (leader_of world)
    pub used : (id : ℕ) (addr : Address)
        → is_used id addr world ≡ (is_some (parts_at link log code.seats id) || is_some (id_at code addr))
    pub addresses : (id : ℕ) (node : Node) → node_of world id ≡ Some node → id_at code node.own.addr ≡ Some id
    pub known : (id : ℕ) → address_of code id ≡ address_in world id
    pub reached : IsReached world
    pub unsent : (id : ℕ) → node_of world id ≡ None → sent_from world id ≡ []
    pub traffic : TrafficStands code.traffic world

-- the code has told an event's lines behind these bytes, and stands for the machine's next world
pub record Tells {L G : Type 0} (link : LinkGhosts L) (log : LogGhosts G) (code : Nodes L G) (before now : List ℕ)
    (after : After) : Type 0 where
  pub text : now ≡ before ++ text_of after.lines
  pub stands : Stands link log code after.world

-- why an event isn't told: a link failed, or none was granted; a log failed by itself; or there is a cause that no
-- count tells of
abbrev pub IsCounted : (ungranted : Type 0) → List Seated → WorldFault → Type 0
IsCounted ungranted seats faults.Limit = ⊤
IsCounted ungranted seats faults.Link = ungranted ⊎ (0 < link_faults_of seats)
IsCounted ungranted seats faults.Log = 0 < log_faults_of seats
IsCounted ungranted seats faults.Memory = ⊤

-- where so many bytes would be sent and a fault is a limit, these are more than a run may send
abbrev pub IsLimitAt : ℕ → WorldFault → Type 0
IsLimitAt sent faults.Limit = most_sent < sent
IsLimitAt sent fault = ⊤

-- those of a world
abbrev pub IsLimitOf : World → WorldFault → Type 0
IsLimitOf world = IsLimitAt (bytes_sent world)

-- how an event is answered: the lines are those of the machine, or there is a fault
abbrev pub Answers : {L G A : Type 0} → LinkGhosts L → LogGhosts G → Nodes L G → After
    → Result (String A) WorldFault → Type 0
Answers link log code after result =
    IfOk result (λ text. Tells link log code [] (string_bytes text) after)
    × IfErr result (IsLimitOf after.world)

-- the same of bytes
abbrev pub AnswersBytes : {L G A : Type 0} → LinkGhosts L → LogGhosts G → Nodes L G → After
    → Result (Vec ℕ A) WorldFault → Type 0
AnswersBytes link log code after result =
    IfOk result (λ text. Tells link log code [] text.items after)
    × IfErr result (IsLimitOf after.world)

-- a node that an event brings back has a log that tells its bytes
abbrev pub CanTell : Event → (ℕ → Option Parts) → Type 0
CanTell (events.Restart id) parts = CanBeTold Restart (parts id)
CanTell event parts = ⊤
