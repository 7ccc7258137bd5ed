-- The seats of the nodes that were started, as they are seen.
use Rattle.std.specs.Prelude.{◌↔◌, ◌==◌, ℕ, List, map, sum, slice_get, Contains, Option, None, Some, if◌then◌else◌}
use Rattle.std.specs.Option.{option_and_then, option_map}
use Rattle.std.specs.BTreeMap.{get}
use Rattle.std.specs.Ordering.{nat_cmp}
use Rattle.cs_link.specs.declared.link.Link.{Ghosts as LinkGhosts}
use Rattle.cs_log.specs.declared.log.Log.{Ghosts as LogGhosts}
use Rattle.cs_node.specs.Placed.{Placed}
use Rattle.cs_world.specs.Processes.{Parts, parts_in}
use Rattle.cs_world.specs.declared.seat.Seat.{Seat}
use Rattle.cs_world.specs.declared.seats.Seats.{Seats}

-- whose they are
abbrev pub ids_of : {S : Type 0} → Seats S → List ℕ
ids_of seats = map (λ seat. seat.id) seats.items.items

-- the place that is noted for an id
abbrev pub place_at : {S : Type 0} → Seats S → ℕ → Option ℕ
place_at seats id = get nat_cmp seats.places id

-- the state in a seat, where that is the seat of the id
abbrev pub state_under : {S : Type 0} → ℕ → Seat S → Option S
state_under id seat = if seat.id == id then Some seat.state else None

-- the state of the node with this id
abbrev pub state_at : {S : Type 0} → Seats S → ℕ → Option S
state_at seats id =
    option_and_then (state_under id) (option_and_then (slice_get seats.items.items) (place_at seats id))

-- what the process of this id has
abbrev pub parts_at : {L G : Type 0} → LinkGhosts L → LogGhosts G → Seats (Placed L G) → ℕ → Option Parts
parts_at link log seats id = option_map (parts_in link log) (state_at seats id)

-- a seat: whose it is, and what it has
pub record Seated : Type 0 where
  pub id : ℕ
  pub parts : Parts

-- that of a process
abbrev pub seated : {L G : Type 0} → LinkGhosts L → LogGhosts G → Seat (Placed L G) → Seated
seated link log seat = record { id = seat.id; parts = parts_in link log seat.state }

-- the seats in their order
abbrev pub seats_of : {L G : Type 0} → LinkGhosts L → LogGhosts G → Seats (Placed L G) → List Seated
seats_of link log seats = map (seated link log) seats.items.items

-- these ids are those of the seats
abbrev pub AreOut : {S : Type 0} → List ℕ → Seats S → Type 0
AreOut out seats = (id : ℕ) → Contains out id ↔ Contains (ids_of seats) id

-- how often their links failed, in all
abbrev pub link_faults_of : List Seated → ℕ
link_faults_of seats = sum (map (λ (seat : Seated). seat.parts.link.faults) seats)

-- and how often their logs failed by themselves
abbrev pub log_faults_of : List Seated → ℕ
log_faults_of seats = sum (map (λ (seat : Seated). seat.parts.log.own_faults) seats)
