-- When the rules offer nothing: a node that represents no region, and one that is no member of the colour.
use Rattle.std.proofs.Common.{◌≡◌, ◌≢◌, ℕ, zero, suc, ◌+◌, ◌<◌, ◌%◌, ◌==◌, not, Bool, true, false, List, [], ◌∷◌, length, get_or, map}
use Rattle.std.proofs.Common.{Option, None, Some, refl, sym, ap, ◌∙◌, arith}
use Rattle.std.specs.List.{AllByRecursion, enumerate_from, filter, filter_map, list_any, slice_get}
use Rattle.std.specs.Option.{option_map}
use Rattle.std.proofs.lemmas.Bool.{eq-eqb, ne_eqb}
use Rattle.std.proofs.lemmas.Bool.Decides.{nat_tests}
use Rattle.std.proofs.lemmas.List.Folds.{list_any_at}
use Rattle.std.proofs.lemmas.Option.{get_or_from_slice_get, same_Some}
use Rattle.cs_base.specs.Ascending.{IsAscendingBy, IsAt, IsGap}
use Rattle.cs_base.proofs.Ascending.{All-at, All-from_places, no_key-gap}
use Rattle.cs_base.proofs.Elements.{All-weaker}
use Rattle.cs_base.specs.declared.member.Member.{Member}
use Rattle.cs_roll.specs.Roll.{IsRoll, member_id}
use Rattle.cs_roll.specs.Sight.{Summaries}
use Rattle.cs_roll.specs.Summary.{RegionSummary}
use Rattle.cs_tree.specs.Colour.{has_colour, members_of_colour, representative}
use Rattle.cs_tree.specs.Local.{local_tree}
use Rattle.cs_tree.specs.Route.{is_node, passed_below, to_members, to_regions}
use Rattle.cs_tree.specs.Tree.{RootedTree, children_of, has_children}
use Rattle.cs_tree.proofs.Counts.{Contains-counted, nil-short}
use Rattle.cs_tree.proofs.Edges.{some-children}
use Rattle.cs_tree.proofs.GoodLocals.{good-part}
use Rattle.cs_tree.proofs.Seen.{slice_get-within}

-- whether a node represents a region
abbrev pub represents : ℕ → ℕ → ℕ × RegionSummary → Bool
represents me colour above = is_node me (representative colour above.1)

-- a node that represents no region has no target by the first rule
pub regions-none : (me : ℕ) (summaries : Summaries) (region colour : ℕ) (tree : Option RootedTree)
    → list_any (represents me colour) summaries ≡ false → to_regions me summaries region colour tree ≡ []
regions-none me summaries region colour None none = refl
regions-none me summaries region colour (Some tree) none = go summaries none
  where
    go : (pairs : Summaries) → list_any (represents me colour) pairs ≡ false
        → filter_map (passed_below me summaries tree.edges region colour) pairs ≡ []
    go [] none = refl
    go (pair ∷ pairs) none = here (represents me colour pair) refl (go pairs)
      where
        here : (b : Bool) → represents me colour pair ≡ b
            → (list_any (represents me colour) pairs ≡ false → filter_map (passed_below me summaries tree.edges region colour) pairs ≡ [])
            → filter_map (passed_below me summaries tree.edges region colour) (pair ∷ pairs) ≡ []
        here true e later = absurd (let other = rw e at none in cc)
        here false e later = rw e (later (rw e at none))

-- what is read of a region says whether the node represents it
pub represents-read : (me colour : ℕ) (summaries : Summaries) (place : ℕ) (summary : RegionSummary) (member : Member) (b : Bool)
    (d : ℕ × RegionSummary) → place < length summaries
    → option_map (λ (pair : ℕ × RegionSummary). pair.1) (slice_get summaries place) ≡ Some summary → representative colour summary ≡ Some member
    → (member.id == me) ≡ b → represents me colour (get_or summaries place d) ≡ b
represents-read me colour summaries place summary member b d lt read stands is =
    let at = slice_get-within summaries place lt in
    let here : get_or summaries place d ≡ at.0 = get_or_from_slice_get summaries place at.0 d at.1 in
    let beside : at.0.1 ≡ summary = same_Some at.0.1 summary (rw at.1 at read) in
    ap (represents me colour) here ∙ (ap (λ (s : RegionSummary). is_node me (representative colour s)) beside ∙ (ap (is_node me) stands ∙ is))

-- whether a member with the id stands there
abbrev pub has_id : ℕ → List Member → Bool
has_id id members = list_any (λ (member : Member). member.id == id) members

module _ (id colour : ℕ) where
  -- the members of the colour, from a place on
  abbrev inside : ℕ → List Member → List Member
  inside place members = map (λ (placed : ℕ × Member). placed.1) (filter (has_colour colour) (enumerate_from place members))

  -- where none has the id, none of the colour has
  inside-none : (place : ℕ) (members : List Member) → AllByRecursion (λ (m : Member). m.id ≢ id) members → has_id id (inside place members) ≡ false
  inside-none place [] none = refl
  inside-none place (m ∷ ms) none = go (place % 4 == colour) refl (inside-none (place + 1) ms none.1)
    where
      go : (b : Bool) → (place % 4 == colour) ≡ b → has_id id (inside (place + 1) ms) ≡ false → has_id id (inside place (m ∷ ms)) ≡ false
      go true e later = (let other : (m.id == id) ≡ false = ne_eqb m.id id none.0 in rw (e, other) later)
      go false e later = rw e later

  -- and the one that has it is of the colour of its place
  inside-one : (place at : ℕ) (members : List Member) → IsAscendingBy member_id members → IsAt member_id id members at
      → has_id id (inside place members) ≡ ((place + at) % 4 == colour)
  inside-one place at [] up is = absurd (omega (arith, is.in_range))
  inside-one place zero (m ∷ ms) up is = go (place % 4 == colour) refl
    where
      same : m.id ≡ id
      same = is.has_key m

      place_is : place + 0 ≡ place
      place_is = omega arith

      later : AllByRecursion (λ (y : Member). y.id ≢ id) ms
      later = All-weaker (λ y. m.id < y.id) (λ y. y.id ≢ id) (λ y below has. absurd (omega (arith, same))) ms up.0

      go : (b : Bool) → (place % 4 == colour) ≡ b → has_id id (inside place (m ∷ ms)) ≡ ((place + 0) % 4 == colour)
      go true e = (let is : (m.id == id) ≡ true = eq-eqb m.id id same in rw (place_is, e, is) refl)
      go false e = rw (place_is, e) (inside-none (place + 1) ms later)
  inside-one place (suc at) (m ∷ ms) up is = go (place % 4 == colour) refl (later (inside-one (place + 1) at ms up.1 rest))
    where
      other : (m.id == id) ≡ false
      other = ne_eqb m.id id (λ has. absurd (
          let below = All-at (λ y. m.id < y.id) ms up.0 at m (omega (arith, is.in_range)) in
          omega (arith, is.has_key m)))

      rest : IsAt member_id id ms at
      rest = record { in_range = omega (arith, is.in_range); has_key = is.has_key }

      place_is : place + 1 + at ≡ place + suc at
      place_is = omega arith

      later : has_id id (inside (place + 1) ms) ≡ ((place + 1 + at) % 4 == colour) → has_id id (inside (place + 1) ms) ≡ ((place + suc at) % 4 == colour)
      later one = one ∙ ap (λ n. n % 4 == colour) place_is

      go : (b : Bool) → (place % 4 == colour) ≡ b → has_id id (inside (place + 1) ms) ≡ ((place + suc at) % 4 == colour)
          → has_id id (inside place (m ∷ ms)) ≡ ((place + suc at) % 4 == colour)
      go true e one = rw (e, other) one
      go false e one = rw e one

-- so a member that is found at a place is of the colour of that place
pub inside-at : (id colour at : ℕ) (roll : List Member) → IsRoll roll → IsAt member_id id roll at
    → (at % 4 == colour) ≡ has_id id (members_of_colour colour roll)
inside-at id colour at roll is found =
    let from_none : 0 + at ≡ at = omega arith in
    sym (inside-one id colour 0 at roll is.ascending found ∙ ap (λ n. n % 4 == colour) from_none)

-- and one that isn't found is of none
pub inside-gap : (id colour at : ℕ) (roll : List Member) → IsGap member_id id roll at → false ≡ has_id id (members_of_colour colour roll)
inside-gap id colour at roll gap =
    sym (inside-none id colour 0 roll (All-from_places (λ (m : Member). m.id ≢ id) roll (no_key-gap member_id id roll at gap)))

-- one that is no member of the colour has no children in its tree
childless : (id colour : ℕ) (roll : List Member) (tree : RootedTree) → IsRoll roll → local_tree colour roll ≡ Some tree
    → has_id id (members_of_colour colour roll) ≡ false → children_of id tree.edges ≡ []
childless id colour roll tree is made none = go (has_children id tree.edges) refl
  where
    go : (b : Bool) → has_children id tree.edges ≡ b → children_of id tree.edges ≡ []
    go true e = absurd (
        let found = Contains-counted (λ (m : Member). m.id == id) (members_of_colour colour roll) ((good-part colour roll tree is made).inner id e) in
        let stands = list_any_at (λ (m : Member). m.id == id) (members_of_colour colour roll) found.1.0 found.0 found.1.1
        (ap (λ (m : Member). m.id == id) found.1.2 ∙ found.2) in
        cc)
    go false e = nil-short (children_of id tree.edges)
        (let same : not (length (children_of id tree.edges) == 0) ≡ false = some-children id tree.edges ∙ e in grind (arith, nat_tests))

-- and unless it is the representative, no target by the other rules
pub members-none : (me colour : ℕ) (roll : List Member) → IsRoll roll → has_id me (members_of_colour colour roll) ≡ false
    → to_members me false roll (local_tree colour roll) ≡ []
members-none me colour roll is none = go (local_tree colour roll) refl
  where
    go : (known : Option RootedTree) → local_tree colour roll ≡ known → to_members me false roll known ≡ []
    go None e = refl
    go (Some tree) e = rw (childless me colour roll tree is e none) refl
