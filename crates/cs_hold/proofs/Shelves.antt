-- Shelves that ascend by region, and the list of the pieces on them.
use Rattle.std.proofs.Common.{◌≡◌, ℕ, ◌==◌, nat_lt, Bool, true, false, List, [], ◌∷◌, ◌++◌}
use Rattle.std.proofs.Common.{map, filter, Some, refl, sym, ap, ◌∙◌, inl, inr, arith, if◌then◌else◌}
use Rattle.std.proofs.Common.{append_assoc}
use Rattle.std.specs.List.{AllByRecursion}
use Rattle.std.specs.Option.{option_map_or}
use Rattle.std.proofs.lemmas.Bool.{cases_order, eqb-true, ne_eqb, lt-ltb, le-ltb}
use Rattle.std.proofs.lemmas.Bool.Decides.{nat_tests}
use Rattle.std.proofs.lemmas.List.{append-nil}
use Rattle.cs_base.proofs.Elements.{All-weaker}
use Rattle.cs_base.specs.Ascending.{at_key, IsAscendingBy, placed_by}
use Rattle.cs_hold.specs.Held.{Held, in_region, of_region, on_shelf, on_shelves, pieces_at, region_of, with_region}

-- the pieces on a shelf pass a test of their region all or none
pub filter-in_region : (test : ℕ → Bool) (region : ℕ) (pieces : List (ℕ × List ℕ))
    → filter (λ (h : Held). test h.region) (in_region region pieces) ≡ (if test region then in_region region pieces else [])
filter-in_region test region [] = by (test region)
  where
    none : List Held
    none = []

    by : (b : Bool) → none ≡ (if b then none else none)
    by true = refl
    by false = refl
filter-in_region test region (piece ∷ pieces) =
    by (test region) (filter-in_region test region pieces)
  where
    first : Held
    first = record { region = region; colour = piece.0; bytes = piece.1 }

    by : (b : Bool) → filter (λ (h : Held). test h.region) (in_region region pieces) ≡ (if b then in_region region pieces else [])
        → (if b then first ∷ filter (λ (h : Held). test h.region) (in_region region pieces) else filter (λ (h : Held). test h.region) (in_region region pieces))
        ≡ (if b then first ∷ in_region region pieces else [])
    by true e = ap (λ rest. first ∷ rest) e
    by false e = e

-- a filter of two lists in a row
filter-append : (p : Held → Bool) (xs ys : List Held) → filter p (xs ++ ys) ≡ filter p xs ++ filter p ys
filter-append p [] ys = refl
filter-append p (x ∷ xs) ys = by (p x) (filter-append p xs ys)
  where
    by : (b : Bool) → filter p (xs ++ ys) ≡ filter p xs ++ filter p ys
        → (if b then x ∷ filter p (xs ++ ys) else filter p (xs ++ ys)) ≡ (if b then x ∷ filter p xs else filter p xs) ++ filter p ys
    by true e = ap (λ rest. x ∷ rest) e
    by false e = e

-- where no shelf passes, no piece does
filter-none : (test : ℕ → Bool) (shelves : List (ℕ × List (ℕ × List ℕ))) → AllByRecursion (λ s. test (region_of s) ≡ false) shelves
    → filter (λ (h : Held). test h.region) (on_shelves shelves) ≡ []
filter-none test [] none = refl
filter-none test (s ∷ ss) none =
    filter-append (λ (h : Held). test h.region) (on_shelf s) (on_shelves ss)
    ∙ rw (filter-in_region test s.0 s.1, none.0, filter-none test ss none.1) refl

-- where each shelf passes, each piece does
filter-all : (test : ℕ → Bool) (shelves : List (ℕ × List (ℕ × List ℕ))) → AllByRecursion (λ s. test (region_of s) ≡ true) shelves
    → filter (λ (h : Held). test h.region) (on_shelves shelves) ≡ on_shelves shelves
filter-all test [] all = refl
filter-all test (s ∷ ss) all =
    filter-append (λ (h : Held). test h.region) (on_shelf s) (on_shelves ss)
    ∙ rw (filter-in_region test s.0 s.1, all.0, filter-all test ss all.1) refl

-- what is given back as pieces with colours
pub colours-in_region : (region : ℕ) (pieces : List (ℕ × List ℕ)) → map (λ (h : Held). (h.colour, h.bytes)) (in_region region pieces) ≡ pieces
colours-in_region region [] = refl
colours-in_region region (piece ∷ pieces) = ap (λ rest. piece ∷ rest) (colours-in_region region pieces)

-- the pieces of a region in the list are those on its shelf
pub of_region-on_shelves : (region : ℕ) (shelves : List (ℕ × List (ℕ × List ℕ))) → IsAscendingBy region_of shelves
    → of_region region (on_shelves shelves) ≡ pieces_at region shelves
of_region-on_shelves region [] up = refl
of_region-on_shelves region (s ∷ ss) up =
    ap (map (λ (h : Held). (h.colour, h.bytes))) (filter-append (λ h. h.region == region) (on_shelf s) (on_shelves ss)
    ∙ ap (λ front. front ++ filter (λ h. h.region == region) (on_shelves ss)) (filter-in_region (λ r. r == region) s.0 s.1))
    ∙ by (s.0 == region) refl (of_region-on_shelves region ss up.1)
  where
    pieces : List Held → List (ℕ × List ℕ)
    pieces held = map (λ h. (h.colour, h.bytes)) held

    rest : List Held
    rest = filter (λ h. h.region == region) (on_shelves ss)

    by : (b : Bool) → (s.0 == region) ≡ b → pieces rest ≡ pieces_at region ss
        → pieces ((if b then in_region s.0 s.1 else []) ++ rest)
        ≡ option_map_or (λ (shelf : ℕ × List (ℕ × List ℕ)). shelf.1) (if b then Some s else at_key region_of region ss) []
    by true same e =
        let here : s.0 ≡ region = eqb-true s.0 region same in
        let none : rest ≡ [] = filter-none (λ r. r == region) ss (All-weaker _ _ (λ t above. ne_eqb (region_of t) region (λ e. omega arith)) ss up.0) in
        rw (none, append-nil) (colours-in_region s.0 s.1)
    by false other e = e

-- a shelf in its place is its pieces in the place of those of its region
pub on_shelves-placed : (s : ℕ × List (ℕ × List ℕ)) (shelves : List (ℕ × List (ℕ × List ℕ))) → IsAscendingBy region_of shelves
    → on_shelves (placed_by region_of s shelves) ≡ with_region s.0 s.1 (on_shelves shelves)
on_shelves-placed s [] up = refl
on_shelves-placed s (t ∷ ts) up = elim (cases_order s.0 t.0) [
  | inl same ↦
      let placed : placed_by region_of s (t ∷ ts) ≡ s ∷ ts = grind (arith, nat_tests) in
      let low_t : nat_lt t.0 s.0 ≡ false = le-ltb t.0 s.0 (omega arith) in
      let high_t : nat_lt s.0 t.0 ≡ false = le-ltb s.0 t.0 (omega arith) in
      let low : filter (λ (h : Held). nat_lt h.region s.0) (on_shelves (t ∷ ts)) ≡ [] =
      filter-none (λ r. nat_lt r s.0) (t ∷ ts) (low_t, All-weaker _ _ (λ u above. le-ltb (region_of u) s.0 (omega arith)) ts up.0) in
      let high : filter (λ (h : Held). nat_lt s.0 h.region) (on_shelves (t ∷ ts)) ≡ on_shelves ts =
      filter-append (λ h. nat_lt s.0 h.region) (on_shelf t) (on_shelves ts)
      ∙ rw (
        filter-in_region (λ r. nat_lt s.0 r) t.0 t.1,
        high_t,
        filter-all (λ r. nat_lt s.0 r) ts
            (All-weaker _ _ (λ u above. lt-ltb s.0 (region_of u) (omega arith)) ts up.0),
      ) refl in
      ap on_shelves placed ∙ sym (rw (low, high) refl)
  | inr (inl below) ↦
      let placed : placed_by region_of s (t ∷ ts) ≡ s ∷ t ∷ ts = grind (arith, nat_tests) in
      let low : filter (λ (h : Held). nat_lt h.region s.0) (on_shelves (t ∷ ts)) ≡ [] =
      filter-none (λ r. nat_lt r s.0) (t ∷ ts)
      (le-ltb t.0 s.0 (omega arith), All-weaker _ _ (λ u above. le-ltb (region_of u) s.0 (omega arith)) ts up.0) in
      let high : filter (λ (h : Held). nat_lt s.0 h.region) (on_shelves (t ∷ ts)) ≡ on_shelves (t ∷ ts) =
      filter-all (λ r. nat_lt s.0 r) (t ∷ ts)
      (lt-ltb s.0 t.0 below, All-weaker _ _ (λ u above. lt-ltb s.0 (region_of u) (omega arith)) ts up.0) in
      ap on_shelves placed ∙ sym (rw (low, high) refl)
  | inr (inr above) ↦
      let placed : placed_by region_of s (t ∷ ts) ≡ t ∷ placed_by region_of s ts = grind (arith, nat_tests) in
      let low : filter (λ (h : Held). nat_lt h.region s.0) (on_shelves (t ∷ ts)) ≡ on_shelf t ++ filter (λ (h : Held). nat_lt h.region s.0) (on_shelves ts) =
      filter-append (λ h. nat_lt h.region s.0) (on_shelf t) (on_shelves ts)
      ∙ rw (filter-in_region (λ r. nat_lt r s.0) t.0 t.1, lt-ltb t.0 s.0 above) refl in
      let high : filter (λ (h : Held). nat_lt s.0 h.region) (on_shelves (t ∷ ts)) ≡ filter (λ (h : Held). nat_lt s.0 h.region) (on_shelves ts) =
      filter-append (λ h. nat_lt s.0 h.region) (on_shelf t) (on_shelves ts)
      ∙ rw (filter-in_region (λ r. nat_lt s.0 r) t.0 t.1, le-ltb s.0 t.0 (omega arith)) refl in
      ap on_shelves placed ∙ ap (λ rest. on_shelf t ++ rest) (on_shelves-placed s ts up.1) ∙ sym (rw (low, high, append_assoc, append_assoc, append_assoc) refl)
]
