-- What a node receives: the name of a datagram that came to it, and what it does to the nodes.
use Rattle.std.specs.Prelude.{◌≡◌, ◌≢◌, ⊤, ℕ, ◌==◌, ◌&&◌, Bool, false, not, List, length, take, map, sum, slice_get}
use Rattle.std.specs.Prelude.{Option, None, Some, Result, Ok, Err}
use Rattle.std.specs.List.{filter, find, range_with_len}
use Rattle.std.specs.Option.{option_map_or, option_or}
use Rattle.std.specs.Str.{bytes_eq}
use Rattle.cs_link.specs.Counts.{counted}
use Rattle.cs_link.specs.Received.{dry_after, taken_after}
use Rattle.cs_link.specs.declared.link.Link.{Ghosts as LinkGhosts}
use Rattle.cs_link.specs.declared.link.LinkFailed.{LinkFailed}
use Rattle.cs_log.specs.declared.log.Log.{Ghosts as LogGhosts}
use Rattle.cs_machine.specs.Delivering.{sent_at, was_delivered}
use Rattle.cs_machine.specs.Names.{Sent, World}
use Rattle.cs_machine.specs.Packets.{bytes_of}
use Rattle.cs_node.specs.Placed.{Placed}
use Rattle.cs_node.specs.Receiving.{HasReceived}
use Rattle.cs_script.specs.declared.event.Event.{Event}
use Rattle.cs_script.specs.declared.event.Event.TheVariants as events
use Rattle.cs_world.specs.Processes.{Parts}
use Rattle.cs_world.specs.Seats.{Seated, ids_of, parts_at, seats_of}
use Rattle.cs_world.specs.declared.fault.WorldFault.{WorldFault}
use Rattle.cs_world.specs.declared.fault.WorldFault.TheVariants.{Link}
use Rattle.cs_world.specs.declared.nodes.Nodes.{Nodes}
use Rattle.cs_world.specs.declared.seats.Seats.{Seats}

-- ---- names

-- a packet goes to the node, and has these bytes
abbrev pub is_sent_so : World → ℕ → List ℕ → Sent → Bool
is_sent_so world id bytes sent = (sent.to == id) && bytes_eq (bytes_of world sent) bytes

-- so does the one with this number
abbrev pub is_numbered_so : World → ℕ → List ℕ → ℕ → Bool
is_numbered_so world id bytes number = option_map_or (is_sent_so world id bytes) (sent_at world number) false

-- the numbers of all that do, ascending
abbrev pub numbers_of : World → ℕ → List ℕ → List ℕ
numbers_of world id bytes = filter (is_numbered_so world id bytes) (range_with_len 1 (length world.sent))

-- the least of them that wasn't delivered yet, and the least of all where each was
abbrev pub least_of : World → List ℕ → Option ℕ
least_of world numbers = option_or (find (λ number. not (was_delivered world number)) numbers) (slice_get numbers 0)

-- the packet that bytes are which came to the node
abbrev pub number_for : World → ℕ → List ℕ → Option ℕ
number_for world id bytes = least_of world (numbers_of world id bytes)

-- the event that they are: the delivery of this packet; or noise, where there is none
abbrev pub event_for : World → ℕ → List ℕ → Event
event_for world id bytes = option_map_or events.Deliver (number_for world id bytes) (events.Noise id (length bytes))

-- such an event says that a datagram came
abbrev pub IsReceipt : Event → Type 0
IsReceipt (events.Deliver number) = ⊤
IsReceipt (events.Noise id size) = ⊤
IsReceipt event = ⊥

-- ---- what is received

-- how many datagrams all links received, up to the last value of a count
abbrev pub taken_of : List Seated → ℕ
taken_of seats = counted 0 (sum (map (λ (seat : Seated). seat.parts.link.taken) seats))

-- and how often nothing was waiting at one of them
abbrev pub dry_of : List Seated → ℕ
dry_of seats = counted 0 (sum (map (λ (seat : Seated). seat.parts.link.dry) seats))

-- both counts
abbrev pub received_of : List Seated → ℕ × ℕ
received_of seats = (taken_of seats, dry_of seats)

-- the link of a node received so, and nothing else of the node has changed
pub record PartsReceive (buffer : List ℕ) (answer : Result (Option ℕ) LinkFailed) (before now : Parts) : Type 0 where
  pub link : HasReceived before.link buffer answer now.link
  pub others : now ≡ record before { link = now.link }

-- there is a node, and it received so
abbrev pub ReceivesUnder : List ℕ → Result (Option ℕ) LinkFailed → Option Parts → Option Parts → Type 0
ReceivesUnder buffer answer before now = (old : Parts) × (new : Parts) × (before ≡ Some old) × (now ≡ Some new)
    × PartsReceive buffer answer old new

-- the node with the id received so, and all other nodes are as they were
pub record ReceivesAt {L G : Type 0} (link : LinkGhosts L) (log : LogGhosts G) (id : ℕ) (buffer : List ℕ)
    (answer : Result (Option ℕ) LinkFailed) (before now : Seats (Placed L G)) : Type 0 where
  pub node : ReceivesUnder buffer answer (parts_at link log before id) (parts_at link log now id)
  pub others : (other : ℕ) → other ≢ id → parts_at link log now other ≡ parts_at link log before other
  pub ids : ids_of now ≡ ids_of before
  pub taken : taken_of (seats_of link log now) ≡ taken_after answer (taken_of (seats_of link log before))
  pub dry : dry_of (seats_of link log now) ≡ dry_after answer (dry_of (seats_of link log before))

-- what is said of an answer of the link: which event the bytes are that came; nothing; or that the link failed
abbrev pub IsSaid : (List ℕ → Event → Type 0) → List ℕ → Result (Option ℕ) LinkFailed
    → Result (Option Event) WorldFault → Type 0
IsSaid IsNamed buffer (Ok (Some n)) (Ok (Some event)) = IsNamed (take n buffer) event
IsSaid IsNamed buffer (Ok None) (Ok None) = ⊤
IsSaid IsNamed buffer (Err failed) (Err Link) = ⊤
IsSaid IsNamed buffer answer result = ⊥

-- the node with the id received, and it was said what; also one that is down: its link is still there, and what comes
-- to it is told as an event all the same
pub record Receives {L G : Type 0} (link : LinkGhosts L) (log : LogGhosts G) (IsNamed : List ℕ → Event → Type 0)
    (id : ℕ) (buffer : List ℕ) (result : Result (Option Event) WorldFault) (before now : Nodes L G) : Type 0 where
  pub answer : Result (Option ℕ) LinkFailed
  pub seats : ReceivesAt link log id buffer answer before.seats now.seats
  pub others : now ≡ record before { seats = now.seats }
  pub said : IsSaid IsNamed buffer answer result
