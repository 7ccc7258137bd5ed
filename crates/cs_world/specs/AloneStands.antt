-- The code has what the node alone is: its values, its log's bytes, and the bytes that it sent.
use Rattle.std.specs.Prelude.{◌≡◌, ⊤, ℕ, List, [], map, Option, Some, None, IsSome}
use Rattle.std.specs.Prelude.{Result, IfOk, IfErr, IfSome}
use Rattle.std.specs.List.{AllByRecursion}
use Rattle.std.specs.String.{string_bytes}
use Rattle.std.specs.declared.string.String.{String}
use Rattle.std.specs.declared.vec.Vec.{Vec}
use Rattle.cs_base.specs.Address.{Address}
use Rattle.cs_link.specs.Maps.{ById}
use Rattle.cs_link.specs.Sent.{Datagram}
use Rattle.cs_link.specs.declared.link.Link.{Ghosts as LinkGhosts}
use Rattle.cs_log.specs.Frames.{IsTorn}
use Rattle.cs_log.specs.declared.log.Log.{Ghosts as LogGhosts}
use Rattle.cs_node.specs.Posting.{datagrams_of}
use Rattle.cs_node.specs.Told.{LinkTold, LogTold}
use Rattle.cs_packet.specs.EntryField.{IsEntry}
use Rattle.cs_packet.specs.declared.packet.Packet.{Packet}
use Rattle.cs_show.specs.Text.{text_of}
use Rattle.cs_world.specs.Actions.{tear_for}
use Rattle.cs_world.specs.Alone.{Alone, OneNode, all_sent, bytes_sent, log_of, node_named}
use Rattle.cs_world.specs.AloneEvents.{AfterAlone}
use Rattle.cs_world.specs.Processes.{Parts}
use Rattle.cs_world.specs.Seats.{parts_at}
use Rattle.cs_world.specs.Sending.{bytes_in, datagram_of}
use Rattle.cs_world.specs.Stands.{IsLimitAt}
use Rattle.cs_world.specs.declared.fault.WorldFault.{WorldFault}
use Rattle.cs_world.specs.declared.home.Home.{Home}
use Rattle.cs_world.specs.declared.nodes.Nodes.{Nodes}
use Rattle.cs_world.specs.declared.traffic.Traffic.{Traffic}

-- a link has sent these packets, has received nothing, and never failed
pub record LinkIsOf (packets : List (Address × Packet)) (link : LinkTold) : Type 0 where
  pub sent : link.sent ≡ Some (datagrams_of packets)
  pub faults : link.faults ≡ 0
  pub taken : link.taken ≡ 0
  pub dry : link.dry ≡ 0

-- a log, where it tells, has these bytes; it never failed by itself, and is armed with the number, if there is one
pub record LogIsOf (wanted : List ℕ) (number : Option ℕ) (log : LogTold) : Type 0 where
  pub bytes : IfSome log.bytes (λ bytes. bytes ≡ wanted)
  pub own_faults : log.own_faults ≡ 0
  pub armed : log.tear ≡ tear_for number

-- a node that can be: its entries are well formed, and there are bytes of no more than a part of one more frame, and
-- none where it is up
pub record IsFormed (n : OneNode) : Type 0 where
  pub entries : AllByRecursion IsEntry n.entries
  pub torn : IsTorn n.tail
  pub whole : IsSome n.node → n.tail ≡ []

-- the code has the node, where it is up, with its link and its log
pub record IsOneNode (n : OneNode) (parts : Parts) : Type 0 where
  pub node : parts.node ≡ n.node
  pub link : LinkIsOf n.sent parts.link
  pub log : LogIsOf (log_of n) n.armed parts.log
  pub formed : IsFormed n

-- there is a node, and the code has it; or neither
abbrev pub IsOneIf : Option OneNode → Option Parts → Type 0
IsOneIf None None = ⊤
IsOneIf None (Some parts) = ⊥
IsOneIf (Some n) None = ⊥
IsOneIf (Some n) (Some parts) = IsOneNode n parts

-- these packets are kept
pub record KeepsSent (traffic : Traffic) (sent : List (Address × Packet)) : Type 0 where
  pub datagrams : traffic.datagrams.items ≡ map datagram_of sent
  pub bytes : traffic.bytes ≡ bytes_in sent

-- the code's nodes are the one node, or none
pub record AreAlone {L G : Type 0} (link : LinkGhosts L) (log : LogGhosts G) (code : Nodes L G) (alone : Alone)
    : Type 0 where
  pub nodes : (id : ℕ) → IsOneIf (node_named alone id) (parts_at link log code.seats id)
  pub traffic : KeepsSent code.traffic (all_sent alone)

-- with who leads, as a line said it
pub record IsAlone {L G : Type 0} (link : LinkGhosts L) (log : LogGhosts G) (told : Option Home) (code : Nodes L G)
    (alone : Alone) : Type 0 where
  pub home : told ≡ alone.home
  pub nodes : AreAlone link log code alone

-- where a fault is a limit, the node would send more with the event than a run may send
abbrev pub IsLimitAlone : Alone → WorldFault → Type 0
IsLimitAlone alone = IsLimitAt (bytes_sent alone)

-- how an action is answered: the lines are those of the node alone, or there is a fault
abbrev pub AnswersAlone : {A L G : Type 0} → LinkGhosts L → LogGhosts G → Nodes L G → AfterAlone
    → Result (String A) WorldFault → Type 0
AnswersAlone link log code after result =
    IfOk result (λ text. (string_bytes text ≡ text_of after.lines) × AreAlone link log code after.alone)
    × IfErr result (IsLimitAlone after.alone)

-- the same of the code with who leads, which an event may change
abbrev pub AnswersSingle : {A L G : Type 0} → LinkGhosts L → LogGhosts G → Option Home → Nodes L G
    → AfterAlone → Result (String A) WorldFault → Type 0
AnswersSingle link log home code after result =
    IfOk result (λ text. (string_bytes text ≡ text_of after.lines) × IsAlone link log home code after.alone)
    × IfErr result (IsLimitAlone after.alone)

-- the same of bytes
abbrev pub AnswersSingleBytes : {A L G : Type 0} → LinkGhosts L → LogGhosts G → Option Home → Nodes L G
    → AfterAlone → Result (Vec ℕ A) WorldFault → Type 0
AnswersSingleBytes link log home code after result =
    IfOk result (λ text. (text.items ≡ text_of after.lines) × IsAlone link log home code after.alone)
    × IfErr result (IsLimitAlone after.alone)

-- by id, the log of the node
abbrev pub IsLogAlone : Alone → ById (List ℕ) → Type 0
IsLogAlone alone logs = (n : OneNode) → alone.node ≡ Some n → logs n.own.id ≡ Some (log_of n)

-- by id, what it sent
abbrev pub IsTrafficAlone : Alone → ById (List Datagram) → Type 0
IsTrafficAlone alone traffic = (n : OneNode) → alone.node ≡ Some n → traffic n.own.id ≡ Some (datagrams_of n.sent)
