-- A list of held pieces in which those of one region are others.
use Rattle.std.proofs.Common.{◌≡◌, ◌≢◌, ℕ, ◌+◌, ◌*◌, ◌<◌, ◌≤◌, ◌==◌, nat_lt, Bool, true, false, List, [], ◌∷◌, ◌++◌, map, filter}
use Rattle.std.proofs.Common.{refl, sym, ap, subst, ◌∙◌, inl, inr, arith, if◌then◌else◌}
use Rattle.std.specs.List.{AllByRecursion}
use Rattle.std.proofs.lemmas.Bool.{cases_eq, cases_order, eq-eqb, eqb-true, ne_eqb, lt-ltb, le-ltb, ltb-true}
use Rattle.std.proofs.lemmas.List.{append-nil}
use Rattle.std.proofs.lemmas.List.Elements.{filter-append}
use Rattle.cs_base.proofs.Ascending.{IsAscendingBy-filter}
use Rattle.cs_base.proofs.Elements.{All-append, All-weaker}
use Rattle.cs_base.specs.Ascending.{IsAscendingBy}
use Rattle.cs_base.specs.Limits.{colours}
use Rattle.cs_hold.specs.Held.{Held, in_region, IsHold, of_region, order_of, with_region}
use Rattle.cs_hold.specs.Pieces.{ArePieces, colour_of}
use Rattle.cs_hold.proofs.Shelves.{colours-in_region, filter-in_region}
use Rattle.cs_hold.proofs.Whole.{All-in_region, ascending-append, in_region-ascending}

-- ---- filters

-- of what passes a weaker test a stronger one takes the same
filter-kept : (p q : Held → Bool) → ((h : Held) → p h ≡ true → q h ≡ true) → (xs : List Held) → filter p (filter q xs) ≡ filter p xs
filter-kept p q weaker [] = refl
filter-kept p q weaker (x ∷ xs) = by (q x) refl (p x) refl (filter-kept p q weaker xs)
  where
    by : (c : Bool) → q x ≡ c → (d : Bool) → p x ≡ d → filter p (filter q xs) ≡ filter p xs
        → filter p (if c then x ∷ filter q xs else filter q xs) ≡ (if d then x ∷ filter p xs else filter p xs)
    by true passes d is rest = ap (λ b. if b then x ∷ filter p (filter q xs) else filter p (filter q xs)) is ∙ here d
      where
        here : (d : Bool) → (if d then x ∷ filter p (filter q xs) else filter p (filter q xs)) ≡ (if d then x ∷ filter p xs else filter p xs)
        here true = ap (λ front. x ∷ front) rest
        here false = rest
    by false passes true is rest = (let same = weaker x is in absurd (cc))
    by false passes false is rest = rest

-- and an apart one takes none
filter-lost : (p q : Held → Bool) → ((h : Held) → p h ≡ true → q h ≡ false) → (xs : List Held) → filter p (filter q xs) ≡ []
filter-lost p q apart [] = refl
filter-lost p q apart (x ∷ xs) = by (q x) refl (p x) refl (filter-lost p q apart xs)
  where
    by : (c : Bool) → q x ≡ c → (d : Bool) → p x ≡ d → filter p (filter q xs) ≡ []
        → filter p (if c then x ∷ filter q xs else filter q xs) ≡ []
    by true passes true is rest = (let same = apart x is in absurd (cc))
    by true passes false is rest = ap (λ b. if b then x ∷ filter p (filter q xs) else filter p (filter q xs)) is ∙ rest
    by false passes d is rest = rest

-- what follows for each element that passes holds of all that pass
All-passing : (P Q : Held → Type 0) (p : Held → Bool) → ((h : Held) → p h ≡ true → P h → Q h) → (xs : List Held) → AllByRecursion P xs
    → AllByRecursion Q (filter p xs)
All-passing P Q p follows [] all = tt
All-passing P Q p follows (x ∷ xs) all = by (p x) refl (All-passing P Q p follows xs all.1)
  where
    by : (b : Bool) → p x ≡ b → AllByRecursion Q (filter p xs) → AllByRecursion Q (if b then x ∷ filter p xs else filter p xs)
    by true passes rest = (follows x passes all.0, rest)
    by false passes rest = rest

-- a piece with its colour
abbrev coloured : Held → ℕ × List ℕ
coloured h = (h.colour, h.bytes)

-- the pieces of a region among others, with one in front or without
abbrev with_first : Bool → Held → ℕ → List Held → List Held
with_first b h region hs = if b then h ∷ filter (λ k. k.region == region) hs else filter (λ k. k.region == region) hs

-- where the colours of each region are allowed, all are
allowed-held : (held : List Held) → ((region : ℕ) → AllByRecursion (λ p. colour_of p < colours) (of_region region held))
    → AllByRecursion (λ h. h.colour < colours) held
allowed-held [] allowed = tt
allowed-held (h ∷ hs) allowed =
    (first (h.region == h.region) (eq-eqb h.region h.region refl) (allowed h.region), allowed-held hs (λ r. rest r (h.region == r) (allowed r)))
  where
    first : (b : Bool) → b ≡ true
        → AllByRecursion (λ p. colour_of p < colours) (map coloured (with_first b h h.region hs))
        → h.colour < colours
    first true same all = all.0
    first false same all = absurd (cc)

    rest : (region : ℕ) (b : Bool)
        → AllByRecursion (λ p. colour_of p < colours) (map coloured (with_first b h region hs))
        → AllByRecursion (λ p. colour_of p < colours) (map coloured (filter (λ k. k.region == region) hs))
    rest region true all = all.1
    rest region false all = all

-- ---- the regions of the new list

module _ (region : ℕ) (pieces : List (ℕ × List ℕ)) (held : List Held) where
  abbrev lower : List Held
  lower = filter (λ h. nat_lt h.region region) held

  abbrev upper : List Held
  upper = filter (λ h. nat_lt region h.region) held

  -- a region's part of each of the three
  parts : (other : ℕ) → filter (λ h. h.region == other) (with_region region pieces held)
      ≡ filter (λ h. h.region == other) lower ++ (if region == other then in_region region pieces else []) ++ filter (λ h. h.region == other) upper
  parts other =
      filter-append (λ (h : Held). h.region == other) (lower ++ in_region region pieces) upper
      ∙ ap (λ front. front ++ filter (λ (h : Held). h.region == other) upper) (filter-append (λ (h : Held). h.region == other) lower (in_region region pieces))
      ∙ ap (λ middle. filter (λ (h : Held). h.region == other) lower ++ middle ++ filter (λ (h : Held). h.region == other) upper)
      (filter-in_region (λ r. r == other) region pieces)

  -- of the region itself only the new pieces
  pub of_region-with : of_region region (with_region region pieces held) ≡ pieces
  of_region-with =
      let low : filter (λ (h : Held). h.region == region) lower ≡ [] =
      filter-lost (λ h. h.region == region) (λ h. nat_lt h.region region)
      (λ h same. le-ltb h.region region (omega (arith, eqb-true h.region region same))) held in
      let high : filter (λ (h : Held). h.region == region) upper ≡ [] =
      filter-lost (λ h. h.region == region) (λ h. nat_lt region h.region)
      (λ h same. le-ltb region h.region (omega (arith, eqb-true h.region region same))) held in
      let middle : (if region == region then in_region region pieces else []) ≡ in_region region pieces =
      ap (λ b. if b then in_region region pieces else []) (eq-eqb region region refl) in
      let all : filter (λ (h : Held). h.region == region) (with_region region pieces held) ≡ in_region region pieces =
      parts region ∙ rw (low, high, middle) (append-nil (in_region region pieces)) in
      ap (map coloured) all ∙ colours-in_region region pieces

  -- the other regions are as before
  pub of_region-other : (other : ℕ) → other ≢ region → of_region other (with_region region pieces held) ≡ of_region other held
  of_region-other other apart =
      let middle : (if region == other then in_region region pieces else []) ≡ [] =
      ap (λ b. if b then in_region region pieces else []) (ne_eqb region other (λ same. apart (sym same))) in
      ap (map coloured) (elim (cases_order other region) [
        | inl same ↦ absurd (apart same)
        | inr (inl below) ↦
            let low : filter (λ (h : Held). h.region == other) lower ≡ filter (λ (h : Held). h.region == other) held =
            filter-kept (λ h. h.region == other) (λ h. nat_lt h.region region)
            (λ h same. lt-ltb h.region region (omega (arith, eqb-true h.region other same))) held in
            let high : filter (λ (h : Held). h.region == other) upper ≡ [] =
            filter-lost (λ h. h.region == other) (λ h. nat_lt region h.region)
            (λ h same. le-ltb region h.region (omega (arith, eqb-true h.region other same))) held in
            parts other ∙ rw (low, high, middle) (simp append-nil)
        | inr (inr above) ↦
            let low : filter (λ (h : Held). h.region == other) lower ≡ [] =
            filter-lost (λ h. h.region == other) (λ h. nat_lt h.region region)
            (λ h same. le-ltb h.region region (omega (arith, eqb-true h.region other same))) held in
            let high : filter (λ (h : Held). h.region == other) upper ≡ filter (λ (h : Held). h.region == other) held =
            filter-kept (λ h. h.region == other) (λ h. nat_lt region h.region)
            (λ h same. lt-ltb region h.region (omega (arith, eqb-true h.region other same))) held in
            parts other ∙ rw (low, high, middle) refl
      ])

  -- the new list ascends
  ascending : IsHold held → ArePieces pieces → IsAscendingBy order_of (with_region region pieces held)
  ascending hold are =
      let allowed : AllByRecursion (λ (h : Held). h.colour < colours) held = allowed-held held (λ r. (hold.regions r).allowed) in
      let below : AllByRecursion (λ (h : Held). order_of h < colours * region) lower =
      All-passing (λ h. h.colour < colours) (λ h. order_of h < colours * region) (λ h. nat_lt h.region region)
      (λ h passes lt. omega (arith, ltb-true h.region region passes)) held allowed in
      let above : AllByRecursion (λ (h : Held). colours * region + colours ≤ order_of h) upper =
      All-passing (λ h. h.colour < colours) (λ h. colours * region + colours ≤ order_of h) (λ h. nat_lt region h.region)
      (λ h passes lt. omega (arith, ltb-true region h.region passes)) held allowed in
      let from : AllByRecursion (λ (h : Held). colours * region ≤ order_of h) (in_region region pieces) =
      All-in_region (λ p. colour_of p < colours) (λ h. colours * region ≤ order_of h) region pieces (λ p lt. omega arith) are.allowed in
      let up_to : AllByRecursion (λ (h : Held). order_of h < colours * region + colours) (in_region region pieces) =
      All-in_region (λ p. colour_of p < colours) (λ h. order_of h < colours * region + colours) region pieces (λ p lt. omega arith) are.allowed in
      let front : IsAscendingBy order_of (lower ++ in_region region pieces) =
      ascending-append (colours * region) lower (in_region region pieces)
      (IsAscendingBy-filter order_of (λ h. nat_lt h.region region) held hold.ascending) (in_region-ascending region pieces are.ascending) below from in
      ascending-append (colours * region + colours) (lower ++ in_region region pieces) upper front
      (IsAscendingBy-filter order_of (λ h. nat_lt region h.region) held hold.ascending)
      (All-append (λ h. order_of h < colours * region + colours) lower (in_region region pieces)
      (All-weaker (λ h. order_of h < colours * region) (λ h. order_of h < colours * region + colours) (λ h lt. omega arith) lower below) up_to)
      above

  -- and is a hold
  pub with_region-hold : IsHold held → ArePieces pieces → IsHold (with_region region pieces held)
  with_region-hold hold are = record {
    ascending = ascending hold are;
    regions = λ other. elim (cases_eq other region) [
      | inl same ↦ subst ArePieces (sym (ap (λ r. of_region r (with_region region pieces held)) same ∙ of_region-with)) are
      | inr apart ↦ subst ArePieces (sym (of_region-other other apart)) (hold.regions other)
    ];
  }
