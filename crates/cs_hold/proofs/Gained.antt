-- The pieces of a region after one more came.
use Rattle.std.proofs.Common.{◌≡◌, ◌≢◌, ℕ, zero, suc, ◌^◌, ◌<◌, ◌≤◌, ◌==◌, Bool, true, false, not, List, [], ◌∷◌, length, take, drop, get_or}
use Rattle.std.proofs.Common.{Some, None, Result, Ok, Err, ◌⊎◌, inl, inr, refl, sym, ap, subst, ◌∙◌, arith, if◌then◌else◌, length-take}
use Rattle.std.specs.List.{AllByRecursion, list_all}
use Rattle.std.proofs.lemmas.Bool.{cases_eq, eq-eqb, ne_eqb, eqb-false}
use Rattle.std.proofs.lemmas.Bool.Decides.{nat_tests}
use Rattle.std.proofs.lemmas.Option.{none-some}
use Rattle.cs_base.specs.Ascending.{at_key, placed_by}
use Rattle.cs_base.specs.Limits.{colours}
use Rattle.cs_base.proofs.Ascending.{All-placed, find-placed, IsAscendingBy-placed}
use Rattle.cs_base.proofs.Elements.{All-find}
use Rattle.cs_piece.specs.Blocks.{piece_of}
use Rattle.cs_piece.specs.Joining.{AreThree, are_alike, are_three, blocks_from, joined, total_of, unfilled}
use Rattle.cs_piece.specs.declared.fault.PieceFault.{PieceFault}
use Rattle.cs_piece.specs.declared.fault.PieceFault.TheVariants.{Index, Length, Padding}
use Rattle.cs_piece.proofs.Joined.{piece_a, piece_b, piece_c}
use Rattle.cs_piece.proofs.Pieces.{joined-pieces}
use Rattle.cs_hold.specs.Kept.{AreBytes, ArePiecesOf, HasAll, IsCompleted}
use Rattle.cs_hold.specs.Pieces.{ArePieces, colour_of, four_from, four_of, gained}
use Rattle.cs_hold.proofs.Whole.{allowed-placed, found-key, length-placed}

-- ---- colours

-- where no element has the key, each has another
pub others_have : {T : Type 0} (key : T → ℕ) (k : ℕ) (xs : List T) → at_key key k xs ≡ None → AllByRecursion (λ x. key x ≢ k) xs
others_have key k [] absent = tt
others_have key k (x ∷ xs) absent = by (key x == k) refl absent (others_have key k xs)
  where
    by : (b : Bool) → (key x == k) ≡ b → (if b then Some x else at_key key k xs) ≡ None
        → (at_key key k xs ≡ None → AllByRecursion (λ y. key y ≢ k) xs) → AllByRecursion (λ y. key y ≢ k) (x ∷ xs)
    by true same absent rest = absurd (none-some x (sym absent))
    by false other absent rest = (eqb-false (key x) k other, rest absent)

-- a piece of the four has the bytes of its colour
pub at_key-four : (bytes : List ℕ) (c : ℕ) → c < colours → at_key colour_of c (four_of bytes) ≡ Some (c, piece_of bytes c)
at_key-four bytes zero lt = refl
at_key-four bytes (suc zero) lt = refl
at_key-four bytes (suc (suc zero)) lt = refl
at_key-four bytes (suc (suc (suc zero))) lt = refl
at_key-four bytes (suc (suc (suc (suc c)))) lt = absurd (omega arith)

-- a colour that comes to two is the third
pub three_colours : (colour : ℕ) (x y : ℕ × List ℕ) → colour < colours → ArePieces (x ∷ y ∷ []) → at_key colour_of colour (x ∷ y ∷ []) ≡ None
    → AreThree colour x.0 y.0
three_colours colour x y lt are absent =
    let others = others_have colour_of colour (x ∷ y ∷ []) absent in
    record {
      first = omega arith;
      second = omega (arith, are.allowed.0);
      third = omega (arith, are.allowed.1.0);
      ab = λ same. others.0 (sym same);
      ac = λ same. others.1.0 (sym same);
      bc = λ same. omega (arith, are.ascending.0.0);
    }

-- and passes the test
pub three_pass : (a b c : ℕ) → AreThree a b c → are_three a b c ≡ true
unfolding are_three
three_pass a b c t = grind (arith, nat_tests, t.first, t.second, t.third, t.ab, t.ac, t.bc)

-- ---- joining

-- what three pieces give by the tests in order: are there three, are they alike, is the filling 0
abbrev tested : Bool → Bool → Bool → List ℕ → Result (List ℕ) PieceFault
tested three alike zeros front = if not three then Err Index else (if not alike then Err Length else (if zeros then Ok front else Err Padding))

-- three of the pieces that don't fit have a fault of length or of filling
pub joined-misfit : (a : ℕ) (x : List ℕ) (b : ℕ) (y : List ℕ) (c : ℕ) (z : List ℕ) (fault : PieceFault) → are_three a b c ≡ true
    → joined a x b y c z ≡ Err fault → (fault ≡ Length) ⊎ (fault ≡ Padding)
unfolding joined unfilled
joined-misfit a x b y c z fault three given =
    let row : List ℕ = blocks_from a (drop 4 x) b (drop 4 y) c (drop 4 z) in
    by (are_three a b c) (are_alike x y z) (list_all (λ byte. byte == 0) (drop (total_of x) row)) (take (total_of x) row) three given
  where
    by : (p q r : Bool) (front : List ℕ) → p ≡ true → tested p q r front ≡ Err fault → (fault ≡ Length) ⊎ (fault ≡ Padding)
    by false q r front three given = absurd (cc)
    by true false r front three given = inl (cc)
    by true true true front three given = absurd (cc)
    by true true false front three given = inr (cc)

-- the bytes are no more than the first piece says
pub joined-short : (a : ℕ) (x : List ℕ) (b : ℕ) (y : List ℕ) (c : ℕ) (z whole : List ℕ) → joined a x b y c z ≡ Ok whole → length whole ≤ total_of x
unfolding joined unfilled
joined-short a x b y c z whole given =
    let row : List ℕ = blocks_from a (drop 4 x) b (drop 4 y) c (drop 4 z) in
    by (are_three a b c) (are_alike x y z) (list_all (λ byte. byte == 0) (drop (total_of x) row)) row given
  where
    by : (p q r : Bool) (row : List ℕ) → tested p q r (take (total_of x) row) ≡ Ok whole → length whole ≤ total_of x
    by false q r row given = absurd (cc)
    by true false r row given = absurd (cc)
    by true true false row given = absurd (cc)
    by true true true row given =
        let front : whole ≡ take (total_of x) row = cc in
        omega (arith, ap length front, length-take (total_of x) row)

-- ---- what is there

-- a piece of a new colour in its place leaves the others
pub HasAll-placed : (colour : ℕ) (bytes : List ℕ) (pieces : List (ℕ × List ℕ)) → at_key colour_of colour pieces ≡ None
    → HasAll colour bytes pieces (placed_by colour_of (colour, bytes) pieces)
HasAll-placed colour bytes pieces absent = record {
  there =
      find-placed colour_of (colour, bytes) colour pieces
      ∙ ap (λ b. if b then Some (colour, bytes) else at_key colour_of colour pieces) (eq-eqb colour colour refl);
  kept = λ c piece before. elim (cases_eq colour c) [
    | inl same ↦ absurd (none-some piece (sym absent ∙ ap (λ k. at_key colour_of k pieces) same ∙ before))
    | inr other ↦
        find-placed colour_of (colour, bytes) c pieces
        ∙ ap (λ b. if b then Some (colour, bytes) else at_key colour_of c pieces) (ne_eqb colour c other)
        ∙ before
  ];
}

-- among all four pieces of some bytes are those that are of the bytes
pub HasAll-four : (colour : ℕ) (bytes whole : List ℕ) (pieces : List (ℕ × List ℕ)) → colour < colours
    → AllByRecursion (λ piece. colour_of piece < colours) pieces → bytes ≡ piece_of whole colour → ArePiecesOf whole pieces
    → HasAll colour bytes pieces (four_of whole)
HasAll-four colour bytes whole pieces lt allowed own all = record {
  there = at_key-four whole colour lt ∙ ap (λ b. Some (colour, b)) (sym own);
  kept = λ c piece before.
      (let key : piece.0 ≡ c = found-key colour_of c pieces piece before in
      let within : piece.0 < colours = All-find (λ (p : ℕ × List ℕ). colour_of p < colours) (λ p. colour_of p == c) pieces piece allowed before in
      let here : piece.1 ≡ piece_of whole piece.0 =
      All-find (λ (p : ℕ × List ℕ). p.1 ≡ piece_of whole p.0) (λ p. colour_of p == c) pieces piece all before in
      let same : piece_of whole c ≡ piece.1 = ap (piece_of whole) (sym key) ∙ sym here in
      at_key-four whole c (omega arith) ∙ λ j. Some (sym key j, same j));
}

-- each item of bytes is below 256
item-fits : (bytes : List ℕ) → AreBytes bytes → (k : ℕ) → get_or bytes k 0 < 256
item-fits [] all k = omega arith
item-fits (b ∷ bytes) all zero = all.0
item-fits (b ∷ bytes) all (suc k) = item-fits bytes all.1 k

-- ---- what the pieces are

-- where a region's pieces are more than two, each colour is there
all_there : (colour : ℕ) (pieces : List (ℕ × List ℕ)) → ArePieces pieces → colour < colours → 2 < length pieces → at_key colour_of colour pieces ≡ None → ⊥
all_there colour pieces are lt many absent =
    let w = are.whole many in
    none-some (colour, piece_of w.bytes colour) (sym absent ∙ ap (at_key colour_of colour) w.all ∙ at_key-four w.bytes colour lt)

-- so a piece of a new colour that doesn't fit has a fault of length or of filling
pub misfit : (colour : ℕ) (bytes : List ℕ) (pieces : List (ℕ × List ℕ)) (x y : ℕ × List ℕ) (fault : PieceFault) → ArePieces pieces
    → colour < colours → at_key colour_of colour pieces ≡ None → 2 ≤ length pieces → x ≡ get_or pieces 0 x → y ≡ get_or pieces 1 y
    → joined colour bytes x.0 x.1 y.0 y.1 ≡ Err fault → (fault ≡ Length) ⊎ (fault ≡ Padding)
misfit colour bytes [] x y fault are lt absent many x_is y_is given = absurd (omega arith)
misfit colour bytes (p ∷ []) x y fault are lt absent many x_is y_is given = absurd (omega arith)
misfit colour bytes (p ∷ q ∷ []) x y fault are lt absent many x_is y_is given =
    joined-misfit colour bytes p.0 p.1 q.0 q.1 fault (three_pass colour p.0 q.0 (three_colours colour p q lt are absent))
    (sym (λ j. joined colour bytes (x_is j).0 (x_is j).1 (y_is j).0 (y_is j).1) ∙ given)
misfit colour bytes (p ∷ q ∷ r ∷ rest) x y fault are lt absent many x_is y_is given =
    absurd (all_there colour (p ∷ q ∷ r ∷ rest) are lt (omega arith) absent)

-- the four pieces of some bytes are pieces of a region
pub ArePieces-four : (bytes : List ℕ) → length bytes < 2 ^ 32 → ArePieces (four_of bytes)
ArePieces-four bytes few = record {
  ascending = ((omega arith, (omega arith, (omega arith, tt))), ((omega arith, (omega arith, tt)), ((omega arith, tt), (tt, tt))));
  allowed = (omega arith, (omega arith, (omega arith, (omega arith, tt))));
  whole = λ many. record { bytes = bytes; few = few; all = refl };
}

-- so are those with one more, where there are at most two then
pub ArePieces-placed : (colour : ℕ) (bytes : List ℕ) (pieces : List (ℕ × List ℕ)) → ArePieces pieces → colour < colours → length pieces < 2
    → ArePieces (placed_by colour_of (colour, bytes) pieces)
ArePieces-placed colour bytes pieces are lt few = record {
  ascending = IsAscendingBy-placed colour_of (colour, bytes) pieces are.ascending;
  allowed = allowed-placed (colour, bytes) pieces lt are.allowed;
  whole = λ many. absurd (omega (arith, length-placed (colour, bytes) pieces));
}

-- pieces that are gained
abbrev fits : List (ℕ × List ℕ) → Result (List (ℕ × List ℕ)) PieceFault
fits pieces = Ok pieces

-- what a piece of a new colour makes of the pieces of its region
pub record Gains (colour : ℕ) (bytes : List ℕ) (before after : List (ℕ × List ℕ)) : Type 0 where
  pub are : ArePieces after
  pub first : length before < 2 → after ≡ placed_by colour_of (colour, bytes) before
  pub few : length before < 2 → length after ≤ 2
  pub third : 2 ≤ length before → IsCompleted colour bytes before after

-- where it goes into its place
gains-placed : (colour : ℕ) (bytes : List ℕ) (before after : List (ℕ × List ℕ)) → ArePieces before → colour < colours → length before < 2
    → fits (placed_by colour_of (colour, bytes) before) ≡ Ok after → Gains colour bytes before after
gains-placed colour bytes before after are lt few given =
    let same : placed_by colour_of (colour, bytes) before ≡ after = cc in
    record {
      are = subst ArePieces same (ArePieces-placed colour bytes before are lt few);
      first = λ lt. sym same;
      few = λ lt. omega (arith, ap length same, length-placed (colour, bytes) before);
      third = λ many. absurd (omega arith);
    }

-- where it is the third
gains-joined : (colour : ℕ) (bytes : List ℕ) (x y : ℕ × List ℕ) (after : List (ℕ × List ℕ)) (given : Result (List ℕ) PieceFault)
    → total_of bytes < 2 ^ 32 → joined colour bytes x.0 x.1 y.0 y.1 ≡ given → four_from given ≡ Ok after → Gains colour bytes (x ∷ y ∷ []) after
gains-joined colour bytes x y after (Err fault) few joins four = absurd (cc)
gains-joined colour bytes x y after (Ok whole) few joins four =
    let same : four_of whole ≡ after = cc in
    let short : length whole < 2 ^ 32 = omega (arith, joined-short colour bytes x.0 x.1 y.0 y.1 whole joins) in
    record {
      are = subst ArePieces same (ArePieces-four whole short);
      first = λ lt. absurd (omega arith);
      few = λ lt. absurd (omega arith);
      third = λ many. record { x = x; y = y; whole = whole; two = refl; few = short; joins = joins; four = sym same };
    }

pub gains : (colour : ℕ) (bytes : List ℕ) (before after : List (ℕ × List ℕ)) → ArePieces before → colour < colours → total_of bytes < 2 ^ 32
    → at_key colour_of colour before ≡ None → gained colour bytes before ≡ Ok after → Gains colour bytes before after
gains colour bytes [] after are lt few absent given = gains-placed colour bytes [] after are lt (omega arith) given
gains colour bytes (x ∷ []) after are lt few absent given = gains-placed colour bytes (x ∷ []) after are lt (omega arith) given
gains colour bytes (x ∷ y ∷ []) after are lt few absent given =
    gains-joined colour bytes x y after (joined colour bytes x.0 x.1 y.0 y.1) few refl given
gains colour bytes (x ∷ y ∷ z ∷ rest) after are lt few absent given =
    absurd (all_there colour (x ∷ y ∷ z ∷ rest) are lt (omega arith) absent)

-- pieces of bytes stay, and the piece that came is there
has_all-joined : (colour : ℕ) (bytes : List ℕ) (x y : ℕ × List ℕ) (after : List (ℕ × List ℕ)) (given : Result (List ℕ) PieceFault)
    → ArePieces (x ∷ y ∷ []) → colour < colours → AreBytes bytes → AreBytes x.1 → AreBytes y.1 → joined colour bytes x.0 x.1 y.0 y.1 ≡ given
    → four_from given ≡ Ok after → HasAll colour bytes (x ∷ y ∷ []) after
has_all-joined colour bytes x y after (Err fault) are lt ours xs ys joins four = absurd (cc)
has_all-joined colour bytes x y after (Ok whole) are lt ours xs ys joins four =
    let same : four_of whole ≡ after = cc in
    subst (HasAll colour bytes (x ∷ y ∷ [])) same
    (HasAll-four colour bytes whole (x ∷ y ∷ []) lt are.allowed
    (piece_a colour bytes x.0 x.1 y.0 y.1 whole joins (item-fits bytes ours))
    (piece_b colour bytes x.0 x.1 y.0 y.1 whole joins (item-fits x.1 xs), (piece_c colour bytes x.0 x.1 y.0 y.1 whole joins (item-fits y.1 ys), tt)))

-- where it goes into its place
has_all-placed : (colour : ℕ) (bytes : List ℕ) (before after : List (ℕ × List ℕ)) → at_key colour_of colour before ≡ None
    → fits (placed_by colour_of (colour, bytes) before) ≡ Ok after → HasAll colour bytes before after
has_all-placed colour bytes before after absent given =
    let same : placed_by colour_of (colour, bytes) before ≡ after = cc in
    subst (HasAll colour bytes before) same (HasAll-placed colour bytes before absent)

pub has_all : (colour : ℕ) (bytes : List ℕ) (before after : List (ℕ × List ℕ)) → ArePieces before → colour < colours → AreBytes bytes
    → AllByRecursion (λ piece. AreBytes piece.1) before → at_key colour_of colour before ≡ None → gained colour bytes before ≡ Ok after
    → HasAll colour bytes before after
has_all colour bytes [] after are lt ours all absent given = has_all-placed colour bytes [] after absent given
has_all colour bytes (x ∷ []) after are lt ours all absent given = has_all-placed colour bytes (x ∷ []) after absent given
has_all colour bytes (x ∷ y ∷ []) after are lt ours all absent given =
    has_all-joined colour bytes x y after (joined colour bytes x.0 x.1 y.0 y.1) are lt ours all.0 all.1.0 refl given
has_all colour bytes (x ∷ y ∷ z ∷ rest) after are lt ours all absent given =
    absurd (all_there colour (x ∷ y ∷ z ∷ rest) are lt (omega arith) absent)

-- ---- pieces of some bytes

-- the pieces that a region gains are of the bytes again
pub record GainsOf (whole : List ℕ) (given : Result (List (ℕ × List ℕ)) PieceFault) : Type 0 where
  pub pieces : List (ℕ × List ℕ)
  pub fits : given ≡ Ok pieces
  pub all : ArePiecesOf whole pieces

gains_of-placed : (colour : ℕ) (whole : List ℕ) (before : List (ℕ × List ℕ)) → ArePiecesOf whole before
    → GainsOf whole (Ok (placed_by colour_of (colour, piece_of whole colour) before))
gains_of-placed colour whole before all = record {
  pieces = placed_by colour_of (colour, piece_of whole colour) before;
  fits = refl;
  all = All-placed colour_of (λ (p : ℕ × List ℕ). p.1 ≡ piece_of whole p.0) (colour, piece_of whole colour) before refl all;
}

pub gains_of : (colour : ℕ) (whole : List ℕ) (before : List (ℕ × List ℕ)) → ArePieces before → colour < colours → length whole < 2 ^ 32
    → at_key colour_of colour before ≡ None → ArePiecesOf whole before → GainsOf whole (gained colour (piece_of whole colour) before)
gains_of colour whole [] are lt few absent all = gains_of-placed colour whole [] all
gains_of colour whole (x ∷ []) are lt few absent all = gains_of-placed colour whole (x ∷ []) all
gains_of colour whole (x ∷ y ∷ []) are lt few absent all =
    let joins : joined colour (piece_of whole colour) x.0 x.1 y.0 y.1 ≡ Ok whole =
    (λ j. joined colour (piece_of whole colour) x.0 (all.0 j) y.0 (all.1.0 j))
    ∙ joined-pieces whole few colour x.0 y.0 (three_colours colour x y lt are absent) in
    record { pieces = four_of whole; fits = ap four_from joins; all = (refl, (refl, (refl, (refl, tt)))) }
gains_of colour whole (x ∷ y ∷ z ∷ rest) are lt few absent all =
    absurd (all_there colour (x ∷ y ∷ z ∷ rest) are lt (omega arith) absent)
