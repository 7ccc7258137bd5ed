-- The members of a colour and the others: how many there are, and that no member has two colours.
use Rattle.std.proofs.Common.{◌≡◌, ◌≢◌, ℕ, ◌+◌, ◌-◌, ◌*◌, ◌/◌, ◌%◌, ◌<◌, ◌≤◌, ◌==◌, Bool, true, false, not, cond, List, [], ◌∷◌, length}
use Rattle.std.proofs.Common.{refl, sym, ap, ◌∙◌, inl, inr, arith}
use Rattle.std.specs.List.{enumerate_from, filter, sum_by}
use Rattle.std.proofs.lemmas.Bool.{cases_lt, eqb-true, eqb-false, ne_eqb}
use Rattle.std.proofs.lemmas.List.{length-map}
use Rattle.std.proofs.lemmas.List.Filters.{length-filter_both, sum_by-filter_both}
use Rattle.std.proofs.lemmas.List.FromFn.{length-enumerate_from}
use Rattle.std.proofs.lemmas.List.Sums.{sum_by-cons}
use Rattle.cs_base.specs.declared.member.Member.{Member}
use Rattle.cs_roll.specs.Roll.{member_id}
use Rattle.cs_tree.specs.Colour.{has_colour, members_of_colour, members_of_others, trees_of}
use Rattle.cs_tree.proofs.Counts.{count_of, here, sum_by-map}

-- how many places below one have a colour
abbrev quarters : ℕ → ℕ → ℕ
quarters place colour = (place + 3 - colour) / 4

-- one more where the place has the colour
quarters-more : (place colour : ℕ) → colour < 4 → quarters (place + 1) colour ≡ quarters place colour + here (place % 4) colour
quarters-more place colour lt = go (place % 4 == colour) refl
  where
    go : (b : Bool) → (place % 4 == colour) ≡ b → quarters (place + 1) colour ≡ quarters place colour + cond b 1 0
    go true e = (let has : place % 4 ≡ colour = eqb-true (place % 4) colour e in omega arith)
    go false e = (let other : place % 4 ≢ colour = eqb-false (place % 4) colour e in omega arith)

-- the members of a colour, from a place on
abbrev coloured : ℕ → ℕ → List Member → List (ℕ × Member)
coloured place colour members = filter (has_colour colour) (enumerate_from place members)

pub length-coloured : (place colour : ℕ) (members : List Member) → colour < 4
    → length (coloured place colour members) + quarters place colour ≡ quarters (place + length members) colour
length-coloured place colour [] lt = omega arith
length-coloured place colour (m ∷ ms) lt =
    by_colour (place % 4 == colour) (quarters-more place colour lt) (length-coloured (place + 1) colour ms lt)
  where
    later : List (ℕ × Member)
    later = coloured (place + 1) colour ms

    by_colour : (b : Bool) → quarters (place + 1) colour ≡ quarters place colour + cond b 1 0
        → length later + quarters (place + 1) colour ≡ quarters (place + 1 + length ms) colour
        → length (cond b ((place, m) ∷ later) later) + quarters place colour ≡ quarters (place + length (m ∷ ms)) colour
    by_colour true more rest =
        let same : place + 1 + length ms ≡ place + length (m ∷ ms) = omega arith in
        omega (arith, ap (λ n. quarters n colour) same)
    by_colour false more rest =
        let same : place + 1 + length ms ≡ place + length (m ∷ ms) = omega arith in
        omega (arith, ap (λ n. quarters n colour) same)

-- no place has a later colour
pub no-coloured : (place colour : ℕ) (members : List Member) → 4 ≤ colour → length (coloured place colour members) ≡ 0
no-coloured place colour [] le = refl
no-coloured place colour (m ∷ ms) le =
    let other : (place % 4 == colour) ≡ false = ne_eqb (place % 4) colour (λ e. omega arith) in
    rw other (no-coloured (place + 1) colour ms le)

-- how many members a colour has, and how many others there are
pub length-of_colour : (colour : ℕ) (roll : List Member) → length (members_of_colour colour roll) ≡ length (coloured 0 colour roll)
length-of_colour colour roll = length-map (coloured 0 colour roll) _

pub length-both : (colour : ℕ) (roll : List Member) → length (members_of_colour colour roll) + length (members_of_others colour roll) ≡ length roll
length-both colour roll =
    let both = length-filter_both (has_colour colour) (λ placed. not (has_colour colour placed)) (λ _. refl) (enumerate_from 0 roll) in
    omega (
      arith,
      length-of_colour colour roll,
      length-map (filter (λ (placed : ℕ × Member). not (has_colour colour placed)) (enumerate_from 0 roll)) (λ (placed : ℕ × Member). placed.1),
      length-enumerate_from 0 roll,
    )

-- a colour that some member has leaves few others: at most six for each member of the colour
pub few-others : (colour : ℕ) (roll : List Member) → 0 < length (members_of_colour colour roll)
    → length (members_of_others colour roll) ≤ 6 * length (members_of_colour colour roll)
few-others colour roll some = elim (cases_lt colour 4) [
  | inl lt ↦ omega (arith, length-both colour roll, length-of_colour colour roll, length-coloured 0 colour roll lt)
  | inr le ↦ absurd (omega (arith, length-of_colour colour roll, no-coloured 0 colour roll le))
]

-- each colour below the number of trees has a member
pub some-coloured : (colour : ℕ) (roll : List Member) → colour < trees_of (length roll) → 0 < length (members_of_colour colour roll)
some-coloured colour roll lt = omega (arith, length-of_colour colour roll, length-coloured 0 colour roll (omega arith))

-- what is read off members is the same where they have places
sum_by-enumerate : (f : Member → ℕ) (place : ℕ) (members : List Member)
    → sum_by (λ (placed : ℕ × Member). f placed.1) (enumerate_from place members) ≡ sum_by f members
sum_by-enumerate f place [] = refl
sum_by-enumerate f place (m ∷ ms) =
    omega (
      arith,
      sum_by-cons f m ms,
      sum_by-cons (λ (placed : ℕ × Member). f placed.1) (place, m) (enumerate_from (place + 1) ms),
      sum_by-enumerate f (place + 1) ms,
    )

-- each member has the colour or is one of the others
pub count-coloured : (k colour : ℕ) (roll : List Member)
    → count_of member_id k roll ≡ count_of member_id k (members_of_colour colour roll) + count_of member_id k (members_of_others colour roll)
count-coloured k colour roll =
    let f : Member → ℕ = λ m. here m.id k in
    let both = sum_by-filter_both (has_colour colour) (λ placed. not (has_colour colour placed)) (λ _. refl)
    (λ (placed : ℕ × Member). f placed.1) (enumerate_from 0 roll) in
    omega (
      arith,
      sum_by-enumerate f 0 roll,
      sum_by-map f (λ (placed : ℕ × Member). placed.1) (coloured 0 colour roll),
      sum_by-map f (λ (placed : ℕ × Member). placed.1) (filter (λ placed. not (has_colour colour placed)) (enumerate_from 0 roll)),
    )

-- no place has two colours
one-coloured : (f : Member → ℕ) (c d : ℕ) → c ≢ d → (place : ℕ) (members : List Member)
    → sum_by (λ (placed : ℕ × Member). f placed.1) (coloured place c members) + sum_by (λ (placed : ℕ × Member). f placed.1) (coloured place d members)
    ≤ sum_by f members
one-coloured f c d other place [] = omega arith
one-coloured f c d other place (m ∷ ms) = go (place % 4 == c) refl (place % 4 == d) refl (one-coloured f c d other (place + 1) ms)
  where
    g : ℕ × Member → ℕ
    g placed = f placed.1

    later_c : List (ℕ × Member)
    later_c = coloured (place + 1) c ms

    later_d : List (ℕ × Member)
    later_d = coloured (place + 1) d ms

    go : (x : Bool) → (place % 4 == c) ≡ x → (y : Bool) → (place % 4 == d) ≡ y → sum_by g later_c + sum_by g later_d ≤ sum_by f ms
        → sum_by g (cond x ((place, m) ∷ later_c) later_c) + sum_by g (cond y ((place, m) ∷ later_d) later_d) ≤ sum_by f (m ∷ ms)
    go true e true e' rest = absurd (other (sym (eqb-true (place % 4) c e) ∙ eqb-true (place % 4) d e'))
    go true e false e' rest = omega (arith, sum_by-cons f m ms, sum_by-cons g (place, m) later_c)
    go false e true e' rest = omega (arith, sum_by-cons f m ms, sum_by-cons g (place, m) later_d)
    go false e false e' rest = omega (arith, sum_by-cons f m ms)

-- and so no member has
pub one-colour : (k c d : ℕ) → c ≢ d → (roll : List Member)
    → count_of member_id k (members_of_colour c roll) + count_of member_id k (members_of_colour d roll) ≤ count_of member_id k roll
one-colour k c d other roll =
    let f : Member → ℕ = λ m. here m.id k in
    omega (
      arith,
      one-coloured f c d other 0 roll,
      sum_by-map f (λ (placed : ℕ × Member). placed.1) (coloured 0 c roll),
      sum_by-map f (λ (placed : ℕ × Member). placed.1) (coloured 0 d roll),
    )
