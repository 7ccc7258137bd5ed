-- What stands at the place of an id, where one of the seats changes.
use Rattle.std.proofs.Common.{◌≡◌, ◌≢◌, ℕ, zero, suc, ◌<◌, ◌≤◌, arith, List, [], ◌∷◌, length, map, set, length-set, get_or-set_same, refl}
use Rattle.std.proofs.Common.{ap, sym, ◌∙◌, inl, inr, Bool, true, false, cond, eqb, Option, None, Some}
use Rattle.std.proofs.lemmas.Bool.{cases_eq, eq-eqb, eqb-true, ne_eqb}
use Rattle.std.proofs.lemmas.Option.{none-some, same_Some, slice_get-map, slice_get-get_or, slice_get_past, slice_get_within}
use Rattle.std.specs.List.{slice_get}
use Rattle.std.specs.Option.{option_and_then, option_map}
use Rattle.cs_link.specs.declared.link.Link.{Ghosts as LinkGhosts}
use Rattle.cs_log.specs.declared.log.Log.{Ghosts as LogGhosts}
use Rattle.cs_machine.proofs.Nodes.{option_map-some}
use Rattle.cs_node.specs.Placed.{Placed}
use Rattle.cs_world.specs.Places.{ArePlaced}
use Rattle.cs_world.specs.Processes.{Parts, parts_in}
use Rattle.cs_world.specs.Seats.{parts_at, place_at, seated, seats_of, state_at, state_under}
use Rattle.cs_world.specs.declared.seat.Seat.{Seat}
use Rattle.cs_world.specs.declared.seats.Seats.{Seats}

-- another place keeps its element
slice_get-set_other : {X : Type 0} (xs : List X) (i j : ℕ) (x : X) → j ≢ i → slice_get (set xs i x) j ≡ slice_get xs j
slice_get-set_other [] i j x apart = refl
slice_get-set_other (y ∷ ys) zero zero x apart = absurd (apart refl)
slice_get-set_other (y ∷ ys) zero (suc j) x apart = refl
slice_get-set_other (y ∷ ys) (suc i) zero x apart = refl
slice_get-set_other (y ∷ ys) (suc i) (suc j) x apart = slice_get-set_other ys i j x (λ same. apart (ap suc same))

-- the place has the new element
pub slice_get-set_same : {X : Type 0} (xs : List X) (i : ℕ) (x : X) → i < length xs → slice_get (set xs i x) i ≡ Some x
slice_get-set_same xs i x within =
    slice_get-get_or (set xs i x) i x (rw length-set within) ∙ ap Some (get_or-set_same xs i x x within)

-- the state in the seat at a place, where that is the seat of the id
abbrev pub state_in : {S : Type 0} → ℕ → List (Seat S) → Option ℕ → Option S
state_in id items place = option_and_then (state_under id) (option_and_then (slice_get items) place)

-- the seat of the id tells its state
own_state : {S : Type 0} (id : ℕ) (seat : Seat S) → seat.id ≡ id → state_under id seat ≡ Some seat.state
own_state id seat is = rw (eq-eqb seat.id id is)

-- another one tells nothing
other_state : {S : Type 0} (id : ℕ) (seat : Seat S) → seat.id ≢ id → state_under id seat ≡ None
other_state id seat apart = rw (ne_eqb seat.id id apart)

-- where the seat of the id stands at the place, its state is the one
pub state_there : {S : Type 0} (id : ℕ) (items : List (Seat S)) (seat : Seat S) (place : ℕ) (found : Option ℕ) → seat.id ≡ id
    → found ≡ Some place → slice_get items place ≡ Some seat → state_in id items found ≡ Some seat.state
state_there id items seat place found own is stands = rw (is, stands) (own_state id seat own)

-- where another one does, there is none
pub none_there : {S : Type 0} (id : ℕ) (items : List (Seat S)) (seat : Seat S) (place : ℕ) → seat.id ≢ id
    → slice_get items place ≡ Some seat → state_in id items (Some place) ≡ None
none_there id items seat place apart stands = rw stands (other_state id seat apart)

-- a node with another id isn't at the place that changes
pub others_kept : {S : Type 0} (items : List (Seat S)) (old new : Seat S) (place other : ℕ) (found : Option ℕ)
    → slice_get items place ≡ Some old → new.id ≡ old.id → old.id ≢ other
    → state_in other (set items place new) found ≡ state_in other items found
others_kept items old new place other None stood same apart = refl
others_kept items old new place other (Some at) stood same apart = elim (cases_eq at place) [
  | inl here ↦
      let within : place < length items = slice_get_within items place old stood in
      rw here (none_there other (set items place new) new place (λ is. apart (sym same ∙ is)) (slice_get-set_same items place new within)
      ∙ sym (none_there other items old place apart stood))
  | inr away ↦ ap (option_and_then (state_under other)) (slice_get-set_other items place at new away)
]

-- a seat of the id has its state
no_seat : {S : Type 0} (found : Option (Seat S)) (id : ℕ) → option_map (λ seat. seat.id) found ≡ Some id
    → option_and_then (state_under id) found ≡ None → ⊥
no_seat None id stands none = cc
no_seat (Some seat) id stands none =
    let told = own_state id seat (same_Some seat.id id stands) in cc

-- a node without a state has no seat
pub not_seated : {S : Type 0} (items : List (Seat S)) (place_of : ℕ → Option ℕ) (id place : ℕ)
    → ArePlaced (map (λ seat. seat.id) items) place_of → state_in id items (place_of id) ≡ None
    → slice_get (map (λ seat. seat.id) items) place ≡ Some id → ⊥
not_seated items place_of id place placed none stands =
    no_seat (slice_get items place) id (sym (slice_get-map (λ seat. seat.id) items place) ∙ stands)
    (ap (state_in id items) (sym (placed place id stands)) ∙ none)

-- its place may be noted behind all seats
pub placed_behind : {S : Type 0} (items : List (Seat S)) (before now : ℕ → Option ℕ) (id : ℕ)
    → ArePlaced (map (λ seat. seat.id) items) before → state_in id items (before id) ≡ None
    → ((other : ℕ) → other ≢ id → now other ≡ before other) → ArePlaced (map (λ seat. seat.id) items) now
placed_behind items before now id placed none others place other stands =
    others other (λ same. not_seated items before id place placed none (stands ∙ ap Some same)) ∙ placed place other stands

-- and all states are as they were
pub states_behind : {S : Type 0} (items : List (Seat S)) (before now : ℕ → Option ℕ) (id other : ℕ)
    → state_in id items (before id) ≡ None → now id ≡ Some (length items)
    → ((q : ℕ) → q ≢ id → now q ≡ before q) → state_in other items (now other) ≡ state_in other items (before other)
states_behind items before now id other none noted others = elim (cases_eq other id) [
  | inl same ↦
      let past : length items ≤ length items = omega arith in
      rw (same, noted, slice_get_past) (sym none)
  | inr apart ↦ ap (state_in other items) (others other apart)
]

-- the seat of a node with a state, and its place
pub record SeatOf {S : Type 0} (items : List (Seat S)) (id : ℕ) (state : S) : Type 0 where
  pub place : ℕ
  pub seat : Seat S
  pub at : slice_get items place ≡ Some seat
  pub own : seat.id ≡ id
  pub has : seat.state ≡ state

-- who has a state has a seat
pub seat_of : {S : Type 0} (items : List (Seat S)) (id : ℕ) (found : Option ℕ) (state : S) → state_in id items found ≡ Some state
    → SeatOf items id state
seat_of items id None state is = absurd (none-some state is)
seat_of {S} items id (Some place) state is = go (slice_get items place) refl is
  where
    by : (seat : Seat S) → slice_get items place ≡ Some seat → (b : Bool) → eqb seat.id id ≡ b
        → cond b (Some seat.state) None ≡ Some state → SeatOf items id state
    by seat at true own has =
        record { place = place; seat = seat; at = at; own = eqb-true seat.id id own; has = same_Some seat.state state has }
    by seat at false own has = absurd (none-some state has)

    go : (o : Option (Seat S)) → slice_get items place ≡ o → option_and_then (state_under id) o ≡ Some state → SeatOf items id state
    go None at has = absurd (none-some state has)
    go (Some seat) at has = by seat at (eqb seat.id id) refl has

-- what sits at a place is found under its id
pub placed-state : {S : Type 0} (seats : Seats S) (place : ℕ) (seat : Seat S) → slice_get seats.items.items place ≡ Some seat
    → state_at seats seat.id ≡ Some seat.state
placed-state seats place seat at =
    state_there seat.id seats.items.items seat place (place_at seats seat.id) refl
    (seats.placed place seat.id (slice_get-map (λ s. s.id) seats.items.items place ∙ ap (option_map (λ s. s.id)) at)) at

-- the seat of a node
pub record SeatThere {L G : Type 0} (link : LinkGhosts L) (log : LogGhosts G) (seats : Seats (Placed L G)) (id : ℕ) (parts : Parts) : Type 0 where
  pub place : ℕ
  pub seat : Seat (Placed L G)
  pub there : slice_get (seats_of link log seats) place ≡ Some (seated link log seat)
  pub whose : seat.id ≡ id
  pub has : parts ≡ parts_in link log seat.state

module _ {L G : Type 0} (link : LinkGhosts L) (log : LogGhosts G) where
  -- what is under an id has a seat with that id
  pub seat-there : (seats : Seats (Placed L G)) (id : ℕ) (parts : Parts) → parts_at link log seats id ≡ Some parts
      → SeatThere link log seats id parts
  seat-there seats id parts is =
      let state = option_map-some (parts_in link log) (state_at seats id) parts is in
      let found = seat_of seats.items.items id (place_at seats id) state.0 state.1 in
      record {
        place = found.place;
        seat = found.seat;
        there = slice_get-map (seated link log) seats.items.items found.place ∙ ap (option_map (seated link log)) found.at;
        whose = found.own;
        has = state.2 ∙ ap (parts_in link log) (sym found.has);
      }
