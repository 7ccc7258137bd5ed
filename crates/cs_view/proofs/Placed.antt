-- What stands in a place: it has the id, and is allowed.
use Rattle.std.proofs.Common.{◌≡◌, ◌==◌, ℕ, List, [], ◌∷◌, Option, Some, None, IfSome, refl, subst}
use Rattle.std.specs.List.{AllByRecursion, cons_option, filter_map, slice_get}
use Rattle.std.specs.Option.{option_map, option_or}
use Rattle.std.proofs.lemmas.Bool.{eqb-true}
use Rattle.cs_base.specs.Ranges.{IsMember, IsRegion}
use Rattle.cs_base.specs.declared.member.Member.{Member}
use Rattle.cs_base.proofs.Elements.{All-find, All-weaker}
use Rattle.cs_item.specs.declared.picture.Picture.{Picture}
use Rattle.cs_roll.specs.Roll.{IsRoll, member_of}
use Rattle.cs_roll.specs.Sight.{Rolls, Summaries}
use Rattle.cs_roll.specs.Summary.{IsSummary, RegionSummary}
use Rattle.cs_view.specs.Place.{member_at, place_in, place_in_globals, place_in_rolls}
use Rattle.cs_view.proofs.Finding.{find_passes}

-- what holds of each value that is given holds of all of them
All-given : {X Y : Type 0} (Q : X → Type 0) (P : Y → Type 0) (f : X → Option Y) → ((x : X) → Q x → IfSome (f x) P) → (xs : List X)
    → AllByRecursion Q xs → AllByRecursion P (filter_map f xs)
All-given Q P f each [] all = tt
All-given {X} {Y} Q P f each (x ∷ xs) all = one_more (f x) (filter_map f xs) (each x all.0) (All-given Q P f each xs all.1)
  where
    one_more : (o : Option Y) (ys : List Y) → IfSome o P → AllByRecursion P ys → AllByRecursion P (cons_option o ys)
    one_more None ys here rest = rest
    one_more (Some y) ys here rest = (here, rest)

-- and of the first
first-given : {Y : Type 0} (P : Y → Type 0) (ys : List Y) → AllByRecursion P ys → IfSome (slice_get ys 0) P
first-given P [] all = tt
first-given P (y ∷ ys) all = all.0

-- what holds of both of two values holds of the first one that is there
either-given : {Y : Type 0} (P : Y → Type 0) (first rest : Option Y) → IfSome first P → IfSome rest P → IfSome (option_or first rest) P
either-given P None rest here later = later
either-given P (Some y) rest here later = here

module _ (P : ℕ × Member → Type 0) (Q : List Member → Type 0) (id : ℕ)
    (each : (region : ℕ) (members : List Member) → Q members → IfSome (member_at id (region, members)) P) where
  -- what holds of the members of each roll holds of what stands in one of the rolls
  in_rolls : (rolls : Rolls) → AllByRecursion (λ (pair : ℕ × List Member). Q pair.1) rolls → IfSome (place_in_rolls id rolls) P
  in_rolls rolls all =
      first-given P (filter_map (member_at id) rolls)
      (All-given (λ (pair : ℕ × List Member). Q pair.1) P (member_at id) (λ pair. each pair.0 pair.1) rolls all)

  -- and what holds of the globals of each summary of what stands among these
  in_globals : (summaries : Summaries) → AllByRecursion (λ (pair : ℕ × RegionSummary). Q pair.1.globals) summaries
      → IfSome (place_in_globals id summaries) P
  in_globals summaries all =
      let there : ℕ × RegionSummary → Option (ℕ × Member) = λ pair. member_at id (pair.0, pair.1.globals) in
      first-given P (filter_map there summaries)
      (All-given (λ (pair : ℕ × RegionSummary). Q pair.1.globals) P there (λ pair. each pair.0 pair.1.globals) summaries all)

-- what is found by an id has it
id-at : (id region : ℕ) (members : List Member) → IfSome (member_at id (region, members)) (λ (place : ℕ × Member). place.1.id ≡ id)
id-at id region members = by_member (member_of id members) refl
  where
    by_member : (found : Option Member) → member_of id members ≡ found
        → IfSome (option_map (λ (m : Member). (region, m)) found) (λ (place : ℕ × Member). place.1.id ≡ id)
    by_member None e = tt
    by_member (Some m) e = eqb-true m.id id (find_passes (λ (k : Member). k.id == id) members m e)

-- and is allowed where the members are
allowed-at : (id region : ℕ) (members : List Member) → IsRoll members
    → IfSome (member_at id (region, members)) (λ (place : ℕ × Member). IsMember place.1)
allowed-at id region members is = by_member (member_of id members) refl
  where
    by_member : (found : Option Member) → member_of id members ≡ found
        → IfSome (option_map (λ (m : Member). (region, m)) found) (λ (place : ℕ × Member). IsMember place.1)
    by_member None e = tt
    by_member (Some m) e = All-find IsMember (λ (k : Member). k.id == id) members m is.allowed e

-- nothing is asked of any element
all_free : {X : Type 0} (xs : List X) → AllByRecursion (λ (x : X). Unit {0}) xs
all_free [] = tt
all_free (x ∷ xs) = (tt, all_free xs)

-- what stands in a roll has the id
pub id-in_rolls : (id : ℕ) (rolls : Rolls) → IfSome (place_in_rolls id rolls) (λ (place : ℕ × Member). place.1.id ≡ id)
id-in_rolls id rolls =
    in_rolls (λ (place : ℕ × Member). place.1.id ≡ id) (λ _. Unit {0}) id (λ region members _. id-at id region members) rolls (all_free rolls)

-- and so has what stands among globals
pub id-in_globals : (id : ℕ) (summaries : Summaries) → IfSome (place_in_globals id summaries) (λ (place : ℕ × Member). place.1.id ≡ id)
id-in_globals id summaries =
    in_globals (λ (place : ℕ × Member). place.1.id ≡ id) (λ _. Unit {0}) id (λ region members _. id-at id region members) summaries (all_free summaries)

-- what stands in a roll is allowed where the rolls are
pub allowed-in_rolls : (id : ℕ) (rolls : Rolls) → AllByRecursion (λ (pair : ℕ × List Member). IsRegion pair.0 × IsRoll pair.1) rolls
    → IfSome (place_in_rolls id rolls) (λ (place : ℕ × Member). IsMember place.1)
allowed-in_rolls id rolls all =
    in_rolls (λ (place : ℕ × Member). IsMember place.1) IsRoll id (allowed-at id) rolls
    (All-weaker (λ (pair : ℕ × List Member). IsRegion pair.0 × IsRoll pair.1) (λ (pair : ℕ × List Member). IsRoll pair.1) (λ pair allowed. allowed.1) rolls all)

-- and what stands among globals where the summaries are
pub allowed-in_globals : (id : ℕ) (summaries : Summaries)
    → AllByRecursion (λ (pair : ℕ × RegionSummary). IsRegion pair.0 × IsSummary pair.1) summaries
    → IfSome (place_in_globals id summaries) (λ (place : ℕ × Member). IsMember place.1)
allowed-in_globals id summaries all =
    in_globals (λ (place : ℕ × Member). IsMember place.1) IsRoll id (allowed-at id) summaries
    (All-weaker (λ (pair : ℕ × RegionSummary). IsRegion pair.0 × IsSummary pair.1) (λ (pair : ℕ × RegionSummary). IsRoll pair.1.globals)
    (λ pair allowed. allowed.1.roll) summaries all)

-- what stands in a place has the id
pub place-id : (id : ℕ) (view : Picture) → IfSome (place_in id view) (λ (place : ℕ × Member). place.1.id ≡ id)
place-id id view =
    either-given (λ (place : ℕ × Member). place.1.id ≡ id) (place_in_rolls id view.rolls) (place_in_globals id view.summaries) (id-in_rolls id view.rolls)
    (id-in_globals id view.summaries)

-- and is allowed where the rolls and the summaries are
pub place-allowed : (id : ℕ) (view : Picture) → AllByRecursion (λ (pair : ℕ × List Member). IsRegion pair.0 × IsRoll pair.1) view.rolls
    → AllByRecursion (λ (pair : ℕ × RegionSummary). IsRegion pair.0 × IsSummary pair.1) view.summaries
    → IfSome (place_in id view) (λ (place : ℕ × Member). IsMember place.1)
place-allowed id view rolls summaries =
    either-given (λ (place : ℕ × Member). IsMember place.1) (place_in_rolls id view.rolls) (place_in_globals id view.summaries)
    (allowed-in_rolls id view.rolls rolls) (allowed-in_globals id view.summaries summaries)

-- what holds of it where it is there
pub is_there : {Y : Type 0} (P : Y → Type 0) (found : Option Y) (y : Y) → IfSome found P → found ≡ Some y → P y
is_there {Y} P found y holds e = subst (λ (o : Option Y). IfSome o P) e holds
