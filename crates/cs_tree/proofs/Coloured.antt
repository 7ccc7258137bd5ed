-- The members of a colour and the others, as parts of a roll, and when there is no local tree.
use Rattle.std.proofs.Common.{◌≡◌, ℕ, ◌+◌, ◌≤◌, ◌↔◌, not, List, [], ◌∷◌, length, Contains, IsNone}
use Rattle.std.proofs.Common.{refl, ap, inl, inr, arith}
use Rattle.std.specs.List.{AllByRecursion, enumerate_from, filter}
use Rattle.std.proofs.lemmas.Bool.{cases_lt}
use Rattle.cs_base.proofs.Ascending.{All-of_filter}
use Rattle.cs_base.proofs.Elements.{All-changed}
use Rattle.cs_base.specs.declared.member.Member.{Member}
use Rattle.cs_roll.specs.Roll.{IsById, member_id}
use Rattle.cs_tree.proofs.Colours.{length-coloured, length-of_colour, no-coloured}
use Rattle.cs_tree.proofs.Counts.{nil-short}
use Rattle.cs_tree.proofs.GoodLocals.{local-there}
use Rattle.cs_tree.proofs.Parting.{AreApart, AreApart-ascending, AreApart-part, all-in}
use Rattle.cs_tree.specs.Colour.{has_colour, members_of_colour, members_of_others, trees_of}
use Rattle.cs_tree.specs.Local.{local_tree, member_point}
use Rattle.cs_tree.specs.Skeleton.{tree_of}

abbrev member_in : ℕ × Member → Member
member_in placed = placed.1

-- what holds of members holds of them with their places
All-enumerated : (P : Member → Type 0) (place : ℕ) (members : List Member) → AllByRecursion P members
    → AllByRecursion (λ placed. P (member_in placed)) (enumerate_from place members)
All-enumerated P place [] all = tt
All-enumerated P place (m ∷ ms) all = (all.0, All-enumerated P (place + 1) ms all.1)

-- so both parts of a roll have members of it
all-of_colour : (colour : ℕ) (roll : List Member) → AllByRecursion (Contains roll) (members_of_colour colour roll)
all-of_colour colour roll =
    let P : ℕ × Member → Type 0 = λ placed. Contains roll (member_in placed) in
    All-changed P (Contains roll) member_in (λ placed has. has) (filter (has_colour colour) (enumerate_from 0 roll))
    (All-of_filter P (has_colour colour) (enumerate_from 0 roll) (All-enumerated (Contains roll) 0 roll (all-in roll)))

all-of_others : (colour : ℕ) (roll : List Member) → AllByRecursion (Contains roll) (members_of_others colour roll)
all-of_others colour roll =
    let P : ℕ × Member → Type 0 = λ placed. Contains roll (member_in placed) in
    let p = λ (placed : ℕ × Member). not (has_colour colour placed) in
    All-changed P (Contains roll) member_in (λ placed has. has) (filter p (enumerate_from 0 roll))
    (All-of_filter P p (enumerate_from 0 roll) (All-enumerated (Contains roll) 0 roll (all-in roll)))

-- whom their ids tell apart
pub apart-of_colour : (colour : ℕ) (roll : List Member) → IsById roll → AreApart member_id (members_of_colour colour roll)
apart-of_colour colour roll up =
    AreApart-part member_id roll (members_of_colour colour roll) (AreApart-ascending member_id roll up) (all-of_colour colour roll)

pub apart-of_others : (colour : ℕ) (roll : List Member) → IsById roll → AreApart member_id (members_of_others colour roll)
apart-of_others colour roll up =
    AreApart-part member_id roll (members_of_others colour roll) (AreApart-ascending member_id roll up) (all-of_others colour roll)

-- no member has a colour from the number of trees on
none-coloured : (colour : ℕ) (roll : List Member) → trees_of (length roll) ≤ colour → members_of_colour colour roll ≡ []
none-coloured colour roll le = nil-short (members_of_colour colour roll) (elim (cases_lt colour 4) [
  | inl lt ↦ omega (arith, length-of_colour colour roll, length-coloured 0 colour roll lt)
  | inr above ↦ omega (arith, length-of_colour colour roll, no-coloured 0 colour roll above)
])

-- so there is a tree exactly for the colours below
pub no-local : (colour : ℕ) (roll : List Member) → IsNone (local_tree colour roll) ↔ (trees_of (length roll) ≤ colour)
no-local colour roll = (
  λ none. elim (cases_lt colour (trees_of (length roll))) [
    | inl lt ↦ absurd (let there = local-there colour roll lt in cc)
    | inr le ↦ le
  ],
  λ le. (
      let empty = none-coloured colour roll le in
      let tree = ap (λ own. tree_of member_id member_point (record { own = own; others = members_of_others colour roll })) empty in
      rw tree refl
      ),
)
