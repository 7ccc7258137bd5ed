-- What holds of the shelves as a whole: their order, the least of them with four pieces, and how many they can be.
use Rattle.std.proofs.Common.{◌≡◌, ◌≢◌, ℕ, suc, ◌+◌, ◌-◌, ◌*◌, ◌<◌, ◌≤◌, ◌==◌, Bool, true, false, List, [], ◌∷◌, ◌++◌}
use Rattle.std.proofs.Common.{length, map, Option, Some, None, refl, sym, ap, subst, ◌∙◌, inl, inr, arith, if◌then◌else◌}
use Rattle.std.specs.List.{AllByRecursion, find}
use Rattle.std.specs.Option.{option_map, option_map_or}
use Rattle.std.proofs.lemmas.Bool.{cases_eq, cases_lt, eqb-true, eqb-false, ne_eqb}
use Rattle.std.proofs.lemmas.Bool.Decides.{nat_tests}
use Rattle.std.proofs.lemmas.List.{map-append}
use Rattle.cs_base.specs.Ascending.{at_key, IsAscendingBy, placed_by}
use Rattle.cs_base.specs.Limits.{colours}
use Rattle.cs_hold.specs.Held.{Held, in_region, IsHold, of_region, on_shelf, on_shelves, order_of, pieces_at, region_of}
use Rattle.cs_hold.specs.Pieces.{ArePieces, colour_of}
use Rattle.cs_hold.specs.Whole.{is_whole_in, least_whole}
use Rattle.cs_base.proofs.Elements.{All-append, All-weaker}
use Rattle.cs_base.proofs.Ascending.{at_key-above, at_key-first}
use Rattle.cs_hold.proofs.Shelves.{of_region-on_shelves}

-- the element that is found has the key
pub found-key : {T : Type 0} (key : T → ℕ) (k : ℕ) (xs : List T) (x : T) → at_key key k xs ≡ Some x → key x ≡ k
found-key key k [] x e = absurd (cc)
found-key key k (y ∷ ys) x e = by (key y == k) refl e (found-key key k ys x)
  where
    by : (b : Bool) → (key y == k) ≡ b → (if b then Some y else at_key key k ys) ≡ Some x → (at_key key k ys ≡ Some x → key x ≡ k) → key x ≡ k
    by true same e rest = let first : y ≡ x = cc in sym (ap key first) ∙ eqb-true (key y) k same
    by false other e rest = rest e

-- one more piece is at most one more
pub length-placed : (piece : ℕ × List ℕ) (pieces : List (ℕ × List ℕ)) → length (placed_by colour_of piece pieces) ≤ suc (length pieces)
length-placed piece [] = omega arith
length-placed piece (p ∷ ps) = grind (arith, nat_tests, length-placed piece ps)

-- and its colour is allowed as those of the others
pub allowed-placed : (piece : ℕ × List ℕ) (pieces : List (ℕ × List ℕ)) → colour_of piece < colours
    → AllByRecursion (λ p. colour_of p < colours) pieces → AllByRecursion (λ p. colour_of p < colours) (placed_by colour_of piece pieces)
allowed-placed piece [] here all = (here, tt)
allowed-placed piece (p ∷ ps) here all = grind (arith, nat_tests, allowed-placed piece ps here all.1)

-- there are at most four
pub length-pieces : (pieces : List (ℕ × List ℕ)) → ArePieces pieces → length pieces ≤ 4
length-pieces pieces are = elim (cases_lt 2 (length pieces)) [
  | inl many ↦ omega (arith, ap length (are.whole many).all)
  | inr few ↦ omega arith
]

-- the pieces of a region are those of its shelf, or none
pub pieces_at-are : (region : ℕ) (shelves : List (ℕ × List (ℕ × List ℕ))) → AllByRecursion (λ s. ArePieces s.1) shelves → ArePieces (pieces_at region shelves)
pieces_at-are region [] all = record { ascending = tt; allowed = tt; whole = λ many. absurd (omega arith) }
pieces_at-are region (s ∷ ss) all = by (s.0 == region) (pieces_at-are region ss all.1)
  where
    by : (b : Bool) → ArePieces (pieces_at region ss)
        → ArePieces (option_map_or (λ (shelf : ℕ × List (ℕ × List ℕ)). shelf.1) (if b then Some s else at_key region_of region ss) [])
    by true rest = all.0
    by false rest = rest

-- whether a shelf has four pieces
abbrev pub is_whole : ℕ × List (ℕ × List ℕ) → Bool
is_whole shelf = length shelf.1 == 4

-- where no shelf has four pieces, no region has
pub none_whole : (shelves : List (ℕ × List (ℕ × List ℕ))) → find is_whole shelves ≡ None → (region : ℕ) → length (pieces_at region shelves) ≢ 4
none_whole [] none region four = omega arith
none_whole (s ∷ ss) none region four = by (is_whole s) refl none (s.0 == region) (none_whole ss) four
  where
    pieces : Option (ℕ × List (ℕ × List ℕ)) → List (ℕ × List ℕ)
    pieces found = option_map_or (λ shelf. shelf.1) found []

    by : (b : Bool) → is_whole s ≡ b → (if b then Some s else find is_whole ss) ≡ None → (here : Bool)
        → (find is_whole ss ≡ None → (region : ℕ) → length (pieces_at region ss) ≢ 4)
        → length (pieces (if here then Some s else at_key region_of region ss)) ≡ 4 → ⊥
    by true whole none here rest four = cc
    by false other none true rest four = eqb-false (length s.1) 4 other four
    by false other none false rest four = rest none region four

-- the first shelf with four pieces is that of the least region with four
pub record IsLeast (shelves : List (ℕ × List (ℕ × List ℕ))) (least : ℕ) : Type 0 where
  pub whole : length (pieces_at least shelves) ≡ 4
  pub lower : (region : ℕ) → region < least → length (pieces_at region shelves) ≢ 4

pub first_is_least : (shelves : List (ℕ × List (ℕ × List ℕ))) → IsAscendingBy region_of shelves → (s : ℕ × List (ℕ × List ℕ))
    → find is_whole shelves ≡ Some s → IsLeast shelves s.0
first_is_least [] up s found = absurd (cc)
first_is_least (t ∷ ts) up s found = by (is_whole t) refl found (first_is_least ts up.1 s)
  where
    above : (region : ℕ) → region ≤ t.0 → pieces_at region ts ≡ []
    above region le = ap (λ found. option_map_or (λ (shelf : ℕ × List (ℕ × List ℕ)). shelf.1) found [])
        (at_key-above region_of region ts (All-weaker _ _ (λ u lt. omega arith) ts up.0))

    at_t : (region : ℕ) → t.0 ≡ region → pieces_at region (t ∷ ts) ≡ t.1
    at_t region same = grind (arith, nat_tests)

    behind : (region : ℕ) → t.0 ≢ region → pieces_at region (t ∷ ts) ≡ pieces_at region ts
    behind region other = grind (arith, nat_tests)

    by : (b : Bool) → is_whole t ≡ b → (if b then Some t else find is_whole ts) ≡ Some s → (find is_whole ts ≡ Some s → IsLeast ts s.0) → IsLeast (t ∷ ts) s.0
    by true whole found rest =
        let same : t ≡ s = cc in
        subst (λ (u : ℕ × List (ℕ × List ℕ)). IsLeast (t ∷ ts) u.0) same (record {
          whole = ap length (at_t t.0 refl) ∙ eqb-true (length t.1) 4 whole;
          lower = λ region lt four. omega (arith, sym (ap length (behind region (λ e. omega arith) ∙ above region (omega arith))) ∙ four);
        })
    by false other found rest =
        let least = rest found in
        let apart : t.0 ≢ s.0 = λ e. omega (arith, sym (ap length (above s.0 (omega arith))) ∙ least.whole) in
        record {
          whole = ap length (behind s.0 apart) ∙ least.whole;
          lower = λ region lt four. elim (cases_eq t.0 region) [
            | inl same ↦ eqb-false (length t.1) 4 other (sym (ap length (at_t region same)) ∙ four)
            | inr not_same ↦ least.lower region lt (sym (ap length (behind region not_same)) ∙ four)
          ];
        }

-- regions of pieces whose region fails a test are passed over
find-passed : (test : ℕ → Bool) (region : ℕ) (pieces : List (ℕ × List ℕ)) (behind : List ℕ) → test region ≡ false
    → find test (map (λ (h : Held). h.region) (in_region region pieces) ++ behind) ≡ find test behind
find-passed test region [] behind fails = refl
find-passed test region (p ∷ ps) behind fails =
    ap (λ b. if b then Some region else find test (map (λ (h : Held). h.region) (in_region region ps) ++ behind)) fails
    ∙ find-passed test region ps behind fails

-- and one of a region that passes is found
find-here : (test : ℕ → Bool) (region : ℕ) (pieces : List (ℕ × List ℕ)) (behind : List ℕ) → test region ≡ true → length pieces ≡ 4
    → find test (map (λ (h : Held). h.region) (in_region region pieces) ++ behind) ≡ Some region
find-here test region [] behind passes four = absurd (omega arith)
find-here test region (p ∷ ps) behind passes four =
    ap (λ b. if b then Some region else find test (map (λ (h : Held). h.region) (in_region region ps) ++ behind)) passes

-- no region is below 0
pub from_zero : (shelves : List (ℕ × List (ℕ × List ℕ))) → AllByRecursion (λ s. 0 ≤ region_of s) shelves
from_zero [] = tt
from_zero (s ∷ ss) = (omega arith, from_zero ss)

-- a test of regions that says which have four pieces finds the first shelf with four
find-region : (low : ℕ) (test : ℕ → Bool) (shelves : List (ℕ × List (ℕ × List ℕ))) → IsAscendingBy region_of shelves
    → AllByRecursion (λ s. low ≤ region_of s) shelves → ((r : ℕ) → low ≤ r → test r ≡ (length (pieces_at r shelves) == 4))
    → find test (map (λ (h : Held). h.region) (on_shelves shelves)) ≡ option_map region_of (find is_whole shelves)
find-region low test [] up from says = refl
find-region low test (s ∷ ss) up from says =
    ap (find test) (map-append (λ (h : Held). h.region) (on_shelf s) (on_shelves ss)) ∙ by (is_whole s) refl (find-region (suc s.0) test ss up.1 up.0)
  where
    pieces : Option (ℕ × List (ℕ × List ℕ)) → List (ℕ × List ℕ)
    pieces found = option_map_or (λ shelf. shelf.1) found []

    here : test s.0 ≡ is_whole s
    here = says s.0 from.0 ∙ ap (λ found. length (pieces found) == 4) (at_key-first region_of s ss)

    behind : (r : ℕ) → s.0 < r → test r ≡ (length (pieces_at r ss) == 4)
    behind r lt =
        says r (omega (arith, from.0))
        ∙ ap (λ b. length (pieces (if b then Some s else at_key region_of r ss)) == 4) (ne_eqb s.0 r (λ same. omega arith))

    by : (b : Bool) → is_whole s ≡ b
        → (((r : ℕ) → s.0 < r → test r ≡ (length (pieces_at r ss) == 4))
        → find test (map (λ (h : Held). h.region) (on_shelves ss)) ≡ option_map region_of (find is_whole ss))
        → find test (map (λ (h : Held). h.region) (on_shelf s) ++ map (λ (h : Held). h.region) (on_shelves ss))
        ≡ option_map region_of (if b then Some s else find is_whole ss)
    by true whole rest = find-here test s.0 s.1 (map (λ (h : Held). h.region) (on_shelves ss)) (here ∙ whole) (eqb-true (length s.1) 4 whole)
    by false other rest =
        find-passed test s.0 s.1 (map (λ (h : Held). h.region) (on_shelves ss)) (here ∙ other)
        ∙ rest behind

-- numbers that ascend below a bound are no more than fit
pub ascending-few : {T : Type 0} (key : T → ℕ) (low high : ℕ) (xs : List T) → IsAscendingBy key xs
    → AllByRecursion (λ x. low ≤ key x) xs → AllByRecursion (λ x. key x < high) xs → length xs ≤ high - low
ascending-few key low high [] up above below = omega arith
ascending-few key low high (x ∷ xs) up above below =
    omega (arith, ascending-few key (suc (key x)) high xs up.1 up.0 below.1, above.0, below.0)

-- a fact of each piece from another
All-held : (P Q : Held → Type 0) (xs : List Held) → ((h : Held) → P h → Q h) → AllByRecursion P xs → AllByRecursion Q xs
All-held P Q [] f all = tt
All-held P Q (x ∷ xs) f all = (f x all.0, All-held P Q xs f all.1)

-- two lists that ascend, with a number between them
pub ascending-append : (k : ℕ) (xs ys : List Held) → IsAscendingBy order_of xs → IsAscendingBy order_of ys
    → AllByRecursion (λ h. order_of h < k) xs → AllByRecursion (λ h. k ≤ order_of h) ys → IsAscendingBy order_of (xs ++ ys)
ascending-append k [] ys up more below above = more
ascending-append k (x ∷ xs) ys up more below above = (
  All-append (λ h. order_of x < order_of h) xs ys up.0
      (All-held (λ h. k ≤ order_of h) (λ h. order_of x < order_of h) ys (λ h le. omega (arith, below.0, le)) above),
  ascending-append k xs ys up.1 more below.1 above,
)

-- a fact of each piece of a shelf
pub All-in_region : (P : ℕ × List ℕ → Type 0) (Q : Held → Type 0) (region : ℕ) (pieces : List (ℕ × List ℕ))
    → ((p : ℕ × List ℕ) → P p → Q (record { region = region; colour = p.0; bytes = p.1 })) → AllByRecursion P pieces
    → AllByRecursion Q (in_region region pieces)
All-in_region P Q region [] f all = tt
All-in_region P Q region (p ∷ ps) f all = (f p all.0, All-in_region P Q region ps f all.1)

-- a shelf ascends
pub in_region-ascending : (region : ℕ) (pieces : List (ℕ × List ℕ)) → IsAscendingBy colour_of pieces → IsAscendingBy order_of (in_region region pieces)
in_region-ascending region [] up = tt
in_region-ascending region (p ∷ ps) up = (
  All-in_region (λ q. colour_of p < colour_of q) (λ h. colours * region + p.0 < order_of h) region ps (λ q lt. omega arith) up.0,
  in_region-ascending region ps up.1,
)

-- the shelves above a region have pieces above it
All-on_shelves : (k : ℕ) (shelves : List (ℕ × List (ℕ × List ℕ))) → AllByRecursion (λ s. k < region_of s) shelves
    → AllByRecursion (λ h. colours * k + colours ≤ order_of h) (on_shelves shelves)
All-on_shelves k [] above = tt
All-on_shelves k (s ∷ ss) above =
    All-append (λ h. colours * k + colours ≤ order_of h) (on_shelf s) (on_shelves ss)
    (All-in_region (λ p. Unit {0}) (λ h. colours * k + colours ≤ order_of h) s.0 s.1 (λ p u. omega (arith, above.0)) (units s.1))
    (All-on_shelves k ss above.1)
  where
    units : (pieces : List (ℕ × List ℕ)) → AllByRecursion (λ p. Unit {0}) pieces
    units [] = tt
    units (p ∷ ps) = (tt, units ps)

-- the pieces on shelves ascend
on_shelves-ascending : (shelves : List (ℕ × List (ℕ × List ℕ))) → IsAscendingBy region_of shelves → AllByRecursion (λ s. ArePieces s.1) shelves
    → IsAscendingBy order_of (on_shelves shelves)
on_shelves-ascending [] up are = tt
on_shelves-ascending (s ∷ ss) up are =
    ascending-append (colours * s.0 + colours) (on_shelf s) (on_shelves ss)
    (in_region-ascending s.0 s.1 are.0.ascending)
    (on_shelves-ascending ss up.1 are.1)
    (All-in_region (λ p. colour_of p < colours) (λ h. order_of h < colours * s.0 + colours) s.0 s.1 (λ p lt. omega arith) are.0.allowed)
    (All-on_shelves s.0 ss up.0)

-- the pieces on shelves are a hold
pub on_shelves-hold : (shelves : List (ℕ × List (ℕ × List ℕ))) → IsAscendingBy region_of shelves → AllByRecursion (λ s. ArePieces s.1) shelves
    → IsHold (on_shelves shelves)
on_shelves-hold shelves up are = record {
  ascending = on_shelves-ascending shelves up are;
  regions = λ region. subst ArePieces (sym (of_region-on_shelves region shelves up)) (pieces_at-are region shelves are);
}

-- the pieces of a region in the list that the shelves are seen as
pub of_region-view : (shelves : List (ℕ × List (ℕ × List ℕ))) (held : List Held) → on_shelves shelves ≡ held → IsAscendingBy region_of shelves
    → (region : ℕ) → of_region region held ≡ pieces_at region shelves
of_region-view shelves held view up region = ap (of_region region) (sym view) ∙ of_region-on_shelves region shelves up

-- the least region with four pieces is that of the first shelf with four
pub least_whole-shelves : (shelves : List (ℕ × List (ℕ × List ℕ))) (held : List Held) → on_shelves shelves ≡ held → IsAscendingBy region_of shelves
    → least_whole held ≡ option_map region_of (find is_whole shelves)
least_whole-shelves shelves held view up =
    ap (λ hs. find (is_whole_in held) (map (λ (h : Held). h.region) hs)) (sym view)
    ∙ find-region 0 (is_whole_in held) shelves up (from_zero shelves) (λ r le. ap (λ ps. length ps == 4) (of_region-view shelves held view up r))
