-- What the notes of places say after one more.
use Rattle.std.proofs.Common.{◌≡◌, ◌≢◌, ℕ, false, nat_cmp, Option, Some, Result, Ok, Err, ap, sym, ◌∙◌, arith, subst, List, map, length, None, BTreeMap}
use Rattle.std.proofs.lemmas.Bool.Decides.{nat_tests}
use Rattle.std.proofs.lemmas.Grind.{common_steps}
use Rattle.std.specs.BTreeMap.{IsUnchanged, Updates, get, is_at}
use Rattle.std.specs.Map.{lookup}
use Rattle.std.specs.Result.{OnErr, OnOk}
use Rattle.cs_world.proofs.Places.{placed_behind, state_in, states_behind}
use Rattle.cs_world.specs.Places.{ArePlaced}
use Rattle.cs_world.specs.declared.seat.Seat.{Seat}

-- another id is told apart
told_apart : (id other : ℕ) → other ≢ id → is_at (nat_cmp id) other ≡ false
told_apart id other apart = grind (arith, common_steps, nat_tests)

-- the place of the id is noted, and no other note changed
pub record Notes (before now : BTreeMap ℕ ℕ) (id place : ℕ) : Type 0 where
  pub noted : get nat_cmp now id ≡ Some place
  pub others : (other : ℕ) → other ≢ id → get nat_cmp now other ≡ get nat_cmp before other

-- so says the map of an update
pub notes_of : (before now : BTreeMap ℕ ℕ) (id place : ℕ) → Updates nat_cmp before now id (Some place) → Notes before now id place
notes_of before now id place updates = record {
  noted = updates.1;
  others = λ other apart. updates.2 other (told_apart id other apart);
}

-- a map that failed to change has the same notes
placed_still : (ids : List ℕ) (before now : BTreeMap ℕ ℕ) → IsUnchanged before now → ArePlaced ids (get nat_cmp before)
    → ArePlaced ids (get nat_cmp now)
placed_still ids before now same placed =
    subst (λ (entries : List (ℕ × ℕ)). ArePlaced ids (λ id. lookup (is_at (nat_cmp id)) entries)) (sym same) placed

-- each id has its place noted still, whether the place of a new one was noted behind all seats or not
pub placed_after : {S E : Type 0} (items : List (Seat S)) (before now : BTreeMap ℕ ℕ) (id place : ℕ) (result : Result (Option ℕ) E)
    → place ≡ length items → ArePlaced (map (λ seat. seat.id) items) (get nat_cmp before)
    → state_in id items (get nat_cmp before id) ≡ None → OnOk result (Updates nat_cmp before now id (Some place))
    → OnErr result (IsUnchanged before now) → ArePlaced (map (λ seat. seat.id) items) (get nat_cmp now)
placed_after items before now id place (Ok found) is placed none updates same =
    let notes = notes_of before now id place updates in
    placed_behind items (get nat_cmp before) (get nat_cmp now) id placed none notes.others
placed_after items before now id place (Err failed) is placed none updates same =
    placed_still (map (λ seat. seat.id) items) before now same placed

-- and the states are as they were
pub states_after : {S : Type 0} (items : List (Seat S)) (before now : BTreeMap ℕ ℕ) (id place other : ℕ) → place ≡ length items
    → state_in id items (get nat_cmp before id) ≡ None → Updates nat_cmp before now id (Some place)
    → state_in other items (get nat_cmp now other) ≡ state_in other items (get nat_cmp before other)
states_after items before now id place other is none updates =
    let notes = notes_of before now id place updates in
    states_behind items (get nat_cmp before) (get nat_cmp now) id other none (notes.noted ∙ ap Some is) notes.others
