-- What a desk has once links and logs were handed back: the log of each node, and what it sent.
use Rattle.std.proofs.Common.{◌≡◌, ◌∙◌, ℕ, List, Option, None, Some, IfSome, IsSome, IsSomeAnd, refl, sym, ap, subst}
use Rattle.std.proofs.lemmas.Bool.{false≢true}
use Rattle.cs_link.specs.Maps.{ById}
use Rattle.cs_link.specs.Sent.{Datagram}
use Rattle.cs_link.specs.declared.link.Link.{Ghosts as LinkGhosts}
use Rattle.cs_log.specs.declared.log.Log.{Ghosts as LogGhosts}
use Rattle.cs_machine.specs.Names.{World, node_of}
use Rattle.cs_machine.proofs.Nodes.{id-found}
use Rattle.cs_node.specs.Placed.{Placed}
use Rattle.cs_world.specs.Desk.{AreKept}
use Rattle.cs_world.specs.Kept.{AreDatagramsOf, AreLogsOf, AreTrafficOf, log_bytes, sent_from}
use Rattle.cs_world.specs.Processes.{Parts}
use Rattle.cs_world.specs.Seats.{parts_at, seated, seats_of}
use Rattle.cs_world.specs.Stands.{Stands}
use Rattle.cs_world.specs.declared.nodes.Nodes.{Nodes}
use Rattle.cs_world.specs.declared.seats.Seats.{Seats}
use Rattle.cs_world.proofs.Places.{SeatThere, seat-there}
use Rattle.cs_world.proofs.Under.{parts-under}

-- a log that tells these bytes, where it tells, tells them where it does
told-bytes : (o : Option (List ℕ)) (wanted : List ℕ) → IsSome o → IfSome o (λ bytes. bytes ≡ wanted) → o ≡ Some wanted
told-bytes None wanted some is = absurd (false≢true some)
told-bytes (Some bytes) wanted some is = ap (λ b. Some b) is

module _ {L G : Type 0} (link : LinkGhosts L) (log : LogGhosts G) where
  module _ (seats : Seats (Placed L G)) (id : ℕ) (parts : Parts) (there : parts_at link log seats id ≡ Some parts) where
    -- the seat of the id
    seat : SeatThere link log seats id parts
    seat = seat-there link log seats id parts there

    -- its log is kept under the id
    pub kept-log : (logs : ById (List ℕ)) → AreKept (λ seat. seat.parts.log.bytes) (seats_of link log seats) logs
        → ((store : G) → IsSome (log.bytes store)) → (wanted : List ℕ) → IfSome parts.log.bytes (λ bytes. bytes ≡ wanted)
        → logs id ≡ Some wanted
    kept-log logs kept tell wanted has =
        let state = seat.seat.state in
        let bytes = subst (λ (p : Parts). IfSome p.log.bytes (λ b. b ≡ wanted)) seat.has has in
        ap logs (sym seat.whose) ∙ kept seat.place (seated link log seat.seat) seat.there
        ∙ told-bytes (log.bytes state.log) wanted (tell state.log) bytes

    -- and what was sent
    pub kept-sent : (traffic : ById (List Datagram)) → AreKept (λ seat. seat.parts.link.sent) (seats_of link log seats) traffic
        → traffic id ≡ parts.link.sent
    kept-sent traffic kept =
        ap traffic (sym seat.whose) ∙ kept seat.place (seated link log seat.seat) seat.there ∙ sym (ap (λ (p : Parts). p.link.sent) seat.has)

  module _ (code : Nodes L G) (world : World) (stands : Stands link log code world) where
    -- under the id of each node its log is kept
    pub kept-logs : (logs : ById (List ℕ)) → AreKept (λ seat. seat.parts.log.bytes) (seats_of link log code.seats) logs
        → ((store : G) → IsSome (log.bytes store)) → AreLogsOf world logs
    kept-logs logs kept tell id node found =
        let there = parts-under world (node_of world id) (parts_at link log code.seats id) node found (stands.nodes id) in
        kept-log code.seats id there.0 there.1 logs kept tell (log_bytes world node) there.2.log.bytes

    -- and what it sent
    pub kept-traffic : (traffic : ById (List Datagram)) → AreKept (λ seat. seat.parts.link.sent) (seats_of link log code.seats) traffic
        → AreTrafficOf world traffic
    kept-traffic traffic kept id node found =
        let there = parts-under world (node_of world id) (parts_at link log code.seats id) node found (stands.nodes id) in
        let Sent : ℕ → Option (List Datagram) → Type 0 =
        λ q o. IsSomeAnd o (λ datagrams. AreDatagramsOf world datagrams (sent_from world q)) in
        subst (Sent id) (sym (kept-sent code.seats id there.0 there.1 traffic kept))
        (subst (λ q. Sent q there.0.link.sent) (id-found world id node found) there.2.link.sent)

-- what is told of a map that is told
pub if-told : {A B : Type 0} (before : Option A) (now : Option B) (P Q : B → Type 0) → IfSome before (λ x. IsSomeAnd now P)
    → (IsSome before → (y : B) → P y → Q y) → IfSome before (λ x. IsSomeAnd now Q)
if-told None now P Q holds so = tt
if-told (Some x) None P Q holds so = holds
if-told (Some x) (Some y) P Q holds so = so refl y holds
