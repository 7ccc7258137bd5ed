-- What an event leads to, and how a step of a node becomes part of the world.
use Rattle.std.specs.Prelude.{ℕ, ◌+◌, ◌==◌, nat_le, List, [], ◌∷◌, ◌++◌, length, map, take, Option, None, Some, codes}
use Rattle.std.specs.Prelude.{if◌then◌else◌}
use Rattle.cs_node.specs.Appending.{entry_frame}
use Rattle.cs_machine.specs.Contents.{contents_of}
use Rattle.cs_machine.specs.Entries.{Entry, entries_of}
use Rattle.cs_machine.specs.Lines.{note_lines, packet_lines}
use Rattle.cs_machine.specs.Names.{Name, Node, Sent, State, World}
use Rattle.cs_machine.specs.Packets.{packet_for}
use Rattle.cs_machine.specs.Step.{Step}
use Rattle.cs_machine.specs.Values.{entry_for}

-- what an event leads to: the next world, and what is written
pub record After : Type 0 where
  pub world : World
  pub lines : List (List ℕ)

-- the world stays as it is
abbrev pub answer : World → List ℕ → After
answer world line = record { world = world; lines = line ∷ [] }

-- a node that is down says so, and another does what its state says
abbrev pub unless_down : World → (State → After) → Option State → After
unless_down world next None = answer world (codes "down")
unless_down world next (Some state) = next state

-- the node with the id has changed
abbrev pub with_node : ℕ → (Node → Node) → World → World
with_node id change world =
    record world { nodes = map (λ (n : Node). if n.own.id == id then change n else n) world.nodes }

-- a node after a step: it has another state, and the step's entry stands behind its others
abbrev pub after_step : Step → Node → Node
after_step step node = record node { state = Some step.state; entries = node.entries ++ entries_of step.entry }

-- the packets that a node sends
abbrev pub sent_by : ℕ → List (ℕ × Name) → List Sent
sent_by from sends = map (λ send. record { from = from; to = send.0; name = send.1 }) sends

-- everything that was sent before, and these packets
abbrev pub with_sent : List Sent → World → World
with_sent sent world = record world { sent = world.sent ++ sent }

-- the world after a node's step: what it logs and what it sends is kept
abbrev pub committed : World → Node → Step → World
committed world node step =
    with_sent (sent_by node.own.id step.sends) (with_node node.own.id (after_step step) world)

-- its answer, and then the packets, which are numbered on
abbrev pub took : World → Node → Step → After
took world node step =
    let next : World = committed world node step in
    let packets = map (packet_for (contents_of next)) (sent_by node.own.id step.sends) in
    record { world = next; lines = note_lines step.note ++ packet_lines (length world.sent + 1) packets }

-- a node whose write was torn behind its entry's frame is down with the entry, and nothing is armed any more
abbrev pub torn_behind : Entry → Node → Node
torn_behind entry node = record node { state = None; entries = node.entries ++ entry ∷ []; armed = None }

-- one whose write was torn within the frame has the first bytes of it instead
abbrev pub torn_within : List ℕ → Node → Node
torn_within tail node = record node { state = None; tail = tail; armed = None }

-- which of the two it is, after so many bytes
abbrev pub torn_by : Entry → List ℕ → ℕ → Node → Node
torn_by entry frame b node =
    if nat_le (length frame) b then torn_behind entry node else torn_within (take b frame) node

-- so it is, and nothing is sent
abbrev pub torn : World → Node → Entry → ℕ → After
torn world node entry b =
    let frame = entry_frame (entry_for (contents_of world) entry) in
    record { world = with_node node.own.id (torn_by entry frame b) world; lines = codes "stopped log" ∷ [] }

-- the entry that is torn, where the step logs one and the node is armed, and after how many bytes
abbrev pub torn_entry : Option Entry → Option ℕ → Option (Entry × ℕ)
torn_entry None armed = None
torn_entry (Some entry) None = None
torn_entry (Some entry) (Some b) = Some (entry, b)

-- whether there is such an entry
abbrev pub unless_torn : World → Node → Step → Option (Entry × ℕ) → After
unless_torn world node step None = took world node step
unless_torn world node step (Some tear) = torn world node tear.0 tear.1

-- the node takes a step, unless its write is torn
abbrev pub commit : World → Node → Step → After
commit world node step = unless_torn world node step (torn_entry step.entry node.armed)
