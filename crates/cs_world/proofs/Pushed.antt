-- What stands where, after one more seat.
use Rattle.std.proofs.Common.{◌≡◌, ◌≢◌, ◌==◌, ℕ, ◌<◌, arith, List, [], ◌∷◌, ◌++◌, length, refl, if◌then◌else◌}
use Rattle.std.proofs.Common.{ap, sym, ◌∙◌, inl, inr, Option, None, Some, length-append}
use Rattle.std.proofs.lemmas.Bool.{cases_eq, cases_lt, eq-eqb, ne_eqb}
use Rattle.std.proofs.lemmas.Option.{same_Some, slice_get_past, slice_get_within}
use Rattle.std.specs.List.{slice_get}
use Rattle.std.specs.Option.{option_and_then}
use Rattle.cs_machine.proofs.Follows.{slice_get-append}
use Rattle.cs_world.proofs.Places.{none_there, state_in, state_there}
use Rattle.cs_world.specs.Places.{ArePlaced}
use Rattle.cs_world.specs.Seats.{state_under}
use Rattle.cs_world.specs.declared.seat.Seat.{Seat}

-- the one more comes last
pub slice_get-end : {X : Type 0} (xs : List X) (y : X) (i : ℕ) → i ≡ length xs → slice_get (xs ++ y ∷ []) i ≡ Some y
slice_get-end [] y i is = rw is
slice_get-end (x ∷ xs) y i is = rw is (slice_get-end xs y (length xs) refl)

-- each id has its place noted still
pub placed_pushed : (ids : List ℕ) (place_of : ℕ → Option ℕ) (id : ℕ) → ArePlaced ids place_of
    → place_of id ≡ Some (length ids) → ArePlaced (ids ++ id ∷ []) place_of
placed_pushed ids place_of id placed noted place other stands = elim (cases_lt place (length ids)) [
  | inl before ↦ placed place other (sym (slice_get-append ids (id ∷ []) place before) ∙ stands)
  | inr behind ↦
      let within : place < length (ids ++ id ∷ []) = slice_get_within (ids ++ id ∷ []) place other stands in
      let is : place ≡ length ids = omega (arith, length-append ids (id ∷ [])) in
      let own : id ≡ other = same_Some id other (sym (slice_get-end ids id place is) ∙ stands) in
      ap place_of (sym own) ∙ noted ∙ ap Some (sym is)
]

-- a node with another id has the state that it had
others_pushed : {S : Type 0} (items : List (Seat S)) (seat : Seat S) (other : ℕ) (found : Option ℕ) → seat.id ≢ other
    → state_in other (items ++ seat ∷ []) found ≡ state_in other items found
others_pushed items seat other None apart = refl
others_pushed items seat other (Some at) apart = elim (cases_lt at (length items)) [
  | inl before ↦ ap (option_and_then (state_under other)) (slice_get-append items (seat ∷ []) at before)
  | inr behind ↦ elim (cases_eq at (length items)) [
    | inl is ↦ none_there other (items ++ seat ∷ []) seat at apart (slice_get-end items seat at is)
        ∙ ap (option_and_then (state_under other)) (sym (slice_get_past items at behind))
    | inr far ↦ ap (option_and_then (state_under other)) (
        slice_get_past (items ++ seat ∷ []) at (omega (arith, length-append items (seat ∷ [])))
        ∙ sym (slice_get_past items at behind))
  ]
]

-- and the new one has its own
pub states_pushed : {S : Type 0} (items : List (Seat S)) (seat : Seat S) (place_of : ℕ → Option ℕ) (other : ℕ)
    → place_of seat.id ≡ Some (length items) → state_in other (items ++ seat ∷ []) (place_of other)
    ≡ (if seat.id == other then Some seat.state else state_in other items (place_of other))
states_pushed items seat place_of other noted = elim (cases_eq seat.id other) [
  | inl same ↦ rw (eq-eqb seat.id other same) (state_there other (items ++ seat ∷ []) seat (length items) (place_of other) same
      (ap place_of (sym same) ∙ noted) (slice_get-end items seat (length items) refl))
  | inr apart ↦ rw (ne_eqb seat.id other apart) (others_pushed items seat other (place_of other) apart)
]
