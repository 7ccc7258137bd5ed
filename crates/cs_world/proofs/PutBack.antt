-- An element is taken out, and the last one comes into its place; another one is put at the end and swapped back there.
use Rattle.std.proofs.Common.{◌≡◌, ◌≢◌, ◌⊎◌, inl, inr, ℕ, ◌+◌, ◌-◌, ◌<◌, List, [], ◌∷◌, ◌++◌, length, get_or, set, arith, sym, ap, ◌∙◌}
use Rattle.std.proofs.Common.{get_or-set_other, get_or-set_same, length-set, map, Some}
use Rattle.std.proofs.lemmas.Bool.{cases_eq}
use Rattle.std.proofs.lemmas.Grind.{common_steps}
use Rattle.std.proofs.lemmas.List.{same_lists}
use Rattle.std.proofs.lemmas.Option.{slice_get-get_or}
use Rattle.std.proofs.Math.Seq.{map-set_same}
use Rattle.std.specs.List.{SwappedAt, slice_get}
use Rattle.cs_world.specs.declared.seat.Seat.{Seat}

-- of a list of so many elements the one at the place was taken out, and the last one came there
abbrev pub TakenAt : {X : Type 0} → ℕ → List X → List X → ℕ → Type 0
TakenAt {X} size items front place =
    ((d : X) → place + 1 < size → get_or front place d ≡ get_or items (size - 1) d)
    × ((k : ℕ) (d : X) → k ≢ place → k + 1 < size → get_or front k d ≡ get_or items k d)

-- one more at the end leaves those before it
front_is_kept : {X : Type 0} (front : List X) (one : X) (k : ℕ) (d : X) → k < length front
    → get_or (front ++ one ∷ []) k d ≡ get_or front k d
front_is_kept front one k d within = grind (arith, common_steps)

-- and is the last
last_is : {X : Type 0} (front : List X) (one : X) (k : ℕ) (d : X) → k ≡ length front → get_or (front ++ one ∷ []) k d ≡ one
last_is front one k d is = grind (arith, common_steps)

-- what stands at each place at the end
at_place : {X : Type 0} (size : ℕ) (items front pushed now : List X) (new : X) (place last k : ℕ) (d : X)
    → size ≡ length items → place < length items → last ≡ length front → size ≡ last + 1 → k < last + 1
    → TakenAt size items front place → pushed ≡ front ++ new ∷ [] → SwappedAt pushed now place last
    → (k ≡ place) ⊎ (k ≢ place) → (k ≡ last) ⊎ (k ≢ last) → get_or now k d ≡ get_or (set items place new) k d
at_place {X} size items front pushed now new place last k d all within is long below taken put back (inl here) at_end =
    rw (here, get_or-set_same) (back.0 d ∙ ap (λ (xs : List X). get_or xs last d) put ∙ last_is front new last d is)
at_place {X} size items front pushed now new place last k d all within is long below taken put back (inr apart) (inl at_end) =
    let inside : place < length front = omega arith in
    let end : size - 1 ≡ last = omega arith in
    rw at_end (back.1 d ∙ ap (λ (xs : List X). get_or xs place d) put ∙ front_is_kept front new place d inside
    ∙ taken.0 d (omega arith) ∙ ap (λ n. get_or items n d) end
    ∙ sym (get_or-set_other items place last new d (rw at_end at apart)))
at_place {X} size items front pushed now new place last k d all within is long below taken put back (inr apart) (inr before) =
    let inside : k < length front = omega arith in
    back.2 k d apart before ∙ ap (λ (xs : List X). get_or xs k d) put ∙ front_is_kept front new k d inside
    ∙ taken.1 k d apart (omega arith) ∙ sym (get_or-set_other items place k new d apart)

-- so the other one stands in the place
put_back : {X : Type 0} (size : ℕ) (items front pushed now : List X) (new : X) (place last : ℕ) → size ≡ length items → place < length items
    → last ≡ length front → size ≡ last + 1 → length now ≡ last + 1 → TakenAt size items front place
    → pushed ≡ front ++ new ∷ [] → SwappedAt pushed now place last → now ≡ set items place new
put_back size items front pushed now new place last all within is long still taken put back =
    same_lists now (set items place new) (still ∙ sym long ∙ all ∙ sym (length-set items place new))
    (λ k d below. at_place size items front pushed now new place last k d all within is long (rw (← still) below) taken
    put back (cases_eq k place) (cases_eq k last))

-- of a seat that keeps its id: it stood at the place, and the ids stay
pub seat_back : {S : Type 0} (size : ℕ) (items front pushed now : List (Seat S)) (seat : Seat S) (state : S) (place last : ℕ)
    → size ≡ length items → place < length items → last ≡ length front → size ≡ last + 1 → length now ≡ last + 1
    → seat ≡ get_or items place seat → TakenAt size items front place
    → pushed ≡ front ++ record { id = seat.id; state = state } ∷ [] → SwappedAt pushed now place last
    → (slice_get items place ≡ Some seat) × (now ≡ set items place record { id = seat.id; state = state })
    × (map (λ s. s.id) now ≡ map (λ s. s.id) items)
seat_back size items front pushed now seat state place last all within is long still stood taken put back =
    let new : Seat _ = record { id = seat.id; state = state } in
    let there = put_back size items front pushed now new place last all within is long still taken put back in (
      slice_get-get_or items place seat within ∙ ap Some (sym stood),
      there,
      ap (map (λ s. s.id)) there ∙ map-set_same (λ s. s.id) items place new seat (ap (λ s. s.id) stood),
    )
