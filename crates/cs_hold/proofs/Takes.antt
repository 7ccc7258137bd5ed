-- What a hold is after a piece or a slice came.
use Rattle.std.proofs.Common.{◌≡◌, ℕ, zero, suc, ◌+◌, ◌^◌, ◌<◌, Bool, List, [], ◌∷◌, length}
use Rattle.std.proofs.Common.{Option, Some, None, is_some, Result, Ok, Err, IsOk, refl, sym, ap, subst, ◌∙◌, inl, inr, arith}
use Rattle.std.proofs.Common.{if◌then◌else◌, length-append}
use Rattle.std.specs.Int.{w32, to_be_bytes, from_be_bytes}
use Rattle.std.specs.List.{AllByRecursion}
use Rattle.std.specs.Option.{option_map}
use Rattle.std.specs.Result.{result_ok}
use Rattle.std.proofs.lemmas.Bool.{cases_eq, eq-eqb, ne_eqb}
use Rattle.std.proofs.lemmas.List.{take_at}
use Rattle.std.proofs.lemmas.Nat.{from_be_bytes-to_be_bytes_4}
use Rattle.std.proofs.lemmas.Option.{none-some}
use Rattle.cs_base.specs.Ascending.{at_key, IsAscendingBy, placed_by}
use Rattle.cs_base.specs.Limits.{colours}
use Rattle.cs_piece.specs.Blocks.{block, block_len, piece_of}
use Rattle.cs_piece.specs.Joining.{AreThree, total_of}
use Rattle.cs_piece.specs.declared.fault.PieceFault.{PieceFault}
use Rattle.cs_piece.proofs.Pieces.{blocks-even, joined-pieces}
use Rattle.cs_hold.specs.Held.{Held, IsHold, of_region, on_shelves, piece_in, pieces_at, region_of, with_region}
use Rattle.cs_hold.specs.Kept.{AreBytes, ArePiecesOf, HasAll, IsCompleted, KeepsPieces, Takes, TakesSlice}
use Rattle.cs_hold.specs.Pieces.{colour_of, four_of, gained}
use Rattle.cs_hold.specs.Taking.{put_in, sliced, taken}
use Rattle.cs_hold.specs.Whole.{given_by}
use Rattle.cs_hold.proofs.Gained.{ArePieces-four, gains, gains_of, has_all}
use Rattle.cs_hold.proofs.Regions.{of_region-other, of_region-with, with_region-hold}
use Rattle.cs_hold.proofs.Shelves.{on_shelves-placed}
use Rattle.cs_hold.proofs.Whole.{of_region-view}

-- ---- bytes

-- a piece says how many bytes it is of
pub total_of-piece : (bytes : List ℕ) (colour : ℕ) → length bytes < 2 ^ 32 → total_of (piece_of bytes colour) ≡ length bytes
unfolding piece_of
total_of-piece bytes colour few =
    ap (from_be_bytes w32) (take_at (to_be_bytes w32 (length bytes)) (block bytes colour) 4 refl)
    ∙ from_be_bytes-to_be_bytes_4 (length bytes) few

-- each block is a third of the bytes
length-block : (bytes : List ℕ) (colour : ℕ) → colour < colours → length (block bytes colour) ≡ block_len (length bytes)
length-block bytes zero lt = (blocks-even bytes).first
length-block bytes (suc zero) lt = (blocks-even bytes).second
length-block bytes (suc (suc zero)) lt = (blocks-even bytes).third
length-block bytes (suc (suc (suc zero))) lt = (blocks-even bytes).fourth
length-block bytes (suc (suc (suc (suc c)))) lt = absurd (omega arith)

-- and a piece is as long as a block and four bytes
pub length-piece : (bytes : List ℕ) (colour : ℕ) → colour < colours → length (piece_of bytes colour) ≡ 4 + block_len (length bytes)
unfolding piece_of
length-piece bytes colour lt =
    length-append (to_be_bytes w32 (length bytes)) (block bytes colour) ∙ omega (arith, length-block bytes colour lt)

-- the first three of the four pieces give the bytes
pub given_by-four : (bytes : List ℕ) → length bytes < 2 ^ 32 → given_by (four_of bytes) ≡ Some bytes
given_by-four bytes few =
    let three : AreThree 0 1 2 = (record {
      first = omega arith;
      second = omega arith;
      third = omega arith;
      ab = omega arith;
      ac = omega arith;
      bc = omega arith;
    }) in
    ap result_ok (joined-pieces bytes few 0 1 2 three)

-- two pieces give none
pub given_by-few : (pieces : List (ℕ × List ℕ)) → length pieces < 3 → given_by pieces ≡ None
given_by-few [] few = refl
given_by-few (x ∷ []) few = refl
given_by-few (x ∷ y ∷ []) few = refl
given_by-few (x ∷ y ∷ z ∷ rest) few = absurd (omega arith)

-- ---- a piece that came

-- what was put in
record IsPutIn (region : ℕ) (held : List Held) (given : Result (List (ℕ × List ℕ)) PieceFault) (next : List Held) : Type 0 where
  pieces : List (ℕ × List ℕ)
  gives : given ≡ Ok pieces
  made : with_region region pieces held ≡ next

is_put_in : (region : ℕ) (held : List Held) (given : Result (List (ℕ × List ℕ)) PieceFault) (next : List Held) → put_in region held given ≡ Ok next
    → IsPutIn region held given next
is_put_in region held (Ok pieces) next put = record { pieces = pieces; gives = refl; made = cc }
is_put_in region held (Err fault) next put = absurd (cc)

module _ (region colour : ℕ) (bytes : List ℕ) (held next : List Held) where
  -- the pieces of the region before
  abbrev before : List (ℕ × List ℕ)
  before = of_region region held

  -- what is taken where the colour is there or not
  abbrev taken_by : Option (ℕ × List ℕ) → Result (List Held) PieceFault
  taken_by found = if is_some found then Ok held else put_in region held (gained colour bytes before)

  -- the piece that is found is there, and the one that isn't isn't
  piece_in-found : (found : Option (ℕ × List ℕ)) → at_key colour_of colour before ≡ found → piece_in region colour held ≡ option_map (λ p. p.1) found
  piece_in-found found is = ap (option_map (λ p. p.1)) is

  -- a piece that is among the region's then is there with its bytes
  pub keeps-from : HasAll colour bytes before (of_region region next) → KeepsPieces region colour bytes held next
  keeps-from has = record {
    there = λ none. ap (option_map (λ p. p.1)) has.there;
    kept = λ c b is. by c b (at_key colour_of c before) refl is;
  }
    where
      by : (c : ℕ) (b : List ℕ) (found : Option (ℕ × List ℕ)) → at_key colour_of c before ≡ found → option_map (λ p. p.1) found ≡ Some b
          → piece_in region c next ≡ Some b
      by c b None is same = absurd (cc)
      by c b (Some p) is same = ap (option_map (λ p. p.1)) (has.kept c p is) ∙ same

  module _ (hold : IsHold held) (lt : colour < colours) where
    -- where the colour is there, all is as before
    takes-same : (p : ℕ × List ℕ) → at_key colour_of colour before ≡ Some p → held ≡ next → Takes region colour bytes held next
    takes-same p is same =
        let some : piece_in region colour held ≡ Some p.1 = piece_in-found (Some p) is in
        subst (λ (n : List Held). Takes region colour bytes held n) same (record {
          hold = hold;
          others = λ other apart. refl;
          already = λ there. refl;
          first = λ none few. absurd (none-some p.1 (sym none ∙ some));
          few = λ none few. absurd (none-some p.1 (sym none ∙ some));
          third = λ none many. absurd (none-some p.1 (sym none ∙ some));
        })

    -- else the pieces that the region gained are in
    takes-new : total_of bytes < 2 ^ 32 → at_key colour_of colour before ≡ None → IsPutIn region held (gained colour bytes before) next
        → Takes region colour bytes held next
    takes-new few absent put =
        let g = gains colour bytes before put.pieces (hold.regions region) lt few absent put.gives in
        let none : piece_in region colour held ≡ None = piece_in-found None absent in
        let same : of_region region (with_region region put.pieces held) ≡ put.pieces = of_region-with region put.pieces held in
        subst (λ (n : List Held). Takes region colour bytes held n) put.made (record {
          hold = with_region-hold region put.pieces held hold g.are;
          others = of_region-other region put.pieces held;
          already = λ there. absurd (cc (there, none));
          first = λ _ less. same ∙ g.first less;
          few = λ _ less. omega (arith, ap length same, g.few less);
          third = λ _ many. subst (IsCompleted colour bytes before) (sym same) (g.third many);
        })

    pub takes : total_of bytes < 2 ^ 32 → taken region colour bytes held ≡ Ok next → Takes region colour bytes held next
    takes few given = by (at_key colour_of colour before) refl given
      where
        by : (found : Option (ℕ × List ℕ)) → at_key colour_of colour before ≡ found → taken_by found ≡ Ok next → Takes region colour bytes held next
        by (Some p) is given = takes-same p is (cc)
        by None is given = takes-new few is (is_put_in region held (gained colour bytes before) next given)

    pub keeps : AreBytes bytes → AllByRecursion (λ piece. AreBytes piece.1) before → taken region colour bytes held ≡ Ok next
        → KeepsPieces region colour bytes held next
    keeps ours all given = by (at_key colour_of colour before) refl given
      where
        by : (found : Option (ℕ × List ℕ)) → at_key colour_of colour before ≡ found → taken_by found ≡ Ok next → KeepsPieces region colour bytes held next
        by (Some p) is given =
            let same : held ≡ next = cc in
            subst (KeepsPieces region colour bytes held) same (record {
              there = λ none. absurd (none-some p.1 (sym none ∙ piece_in-found (Some p) is));
              kept = λ c b there. there;
            })
        by None is given =
            let put = is_put_in region held (gained colour bytes before) next given in
            let same : put.pieces ≡ of_region region next = sym (of_region-with region put.pieces held) ∙ ap (of_region region) put.made in
            keeps-from (subst (HasAll colour bytes before) same (has_all colour bytes before put.pieces (hold.regions region) lt ours all is put.gives))

-- where the shelf of the region was put in
pub keeps-put : (shelves : List (ℕ × List (ℕ × List ℕ))) (held : List Held) → on_shelves shelves ≡ held → IsAscendingBy region_of shelves
    → (region colour : ℕ) (bytes : List ℕ) (s : ℕ × List (ℕ × List ℕ)) → s.0 ≡ region → HasAll colour bytes (pieces_at region shelves) s.1
    → (new : List (ℕ × List (ℕ × List ℕ))) → new ≡ placed_by region_of s shelves → KeepsPieces region colour bytes held (on_shelves new)
keeps-put shelves held view up region colour bytes s own has new placed =
    let before : pieces_at region shelves ≡ of_region region held = sym (of_region-view shelves held view up region) in
    let after : s.1 ≡ of_region region (on_shelves new) =
    sym (ap (of_region region) (ap on_shelves placed ∙ on_shelves-placed s shelves up ∙ ap (λ r. with_region r s.1 (on_shelves shelves)) own)
    ∙ of_region-with region s.1 (on_shelves shelves)) in
    keeps-from region colour bytes held (on_shelves new) (subst (λ (b : List (ℕ × List ℕ)). HasAll colour bytes b (of_region region (on_shelves new))) before
    (subst (HasAll colour bytes (pieces_at region shelves)) after has))

-- ---- pieces of some bytes

module _ (region colour : ℕ) (whole : List ℕ) (held : List Held) (hold : IsHold held) (lt : colour < colours) (few : length whole < 2 ^ 32)
    (all : ArePiecesOf whole (of_region region held)) where
  -- what is taken where the colour is there or not
  abbrev taken_of : Option (ℕ × List ℕ) → Result (List Held) PieceFault
  taken_of found = if is_some found then Ok held else put_in region held (gained colour (piece_of whole colour) (of_region region held))

  -- one more of the pieces is taken
  pub piece_fits : IsOk (taken region colour (piece_of whole colour) held)
  piece_fits = by (at_key colour_of colour (of_region region held)) refl
    where
      by : (found : Option (ℕ × List ℕ)) → at_key colour_of colour (of_region region held) ≡ found → IsOk (taken_of found)
      by (Some p) is = refl
      by None is =
          let g = gains_of colour whole (of_region region held) (hold.regions region) lt few is all in
          subst (λ (given : Result (List (ℕ × List ℕ)) PieceFault). IsOk (put_in region held given)) (sym g.fits) refl

  -- and all are of the bytes again
  pub pieces_again : (next : List Held) → taken region colour (piece_of whole colour) held ≡ Ok next → ArePiecesOf whole (of_region region next)
  pieces_again next given = by (at_key colour_of colour (of_region region held)) refl given
    where
      by : (found : Option (ℕ × List ℕ)) → at_key colour_of colour (of_region region held) ≡ found → taken_of found ≡ Ok next
          → ArePiecesOf whole (of_region region next)
      by (Some p) is given =
          let same : held ≡ next = cc in
          subst (λ (n : List Held). ArePiecesOf whole (of_region region n)) same all
      by None is given =
          let g = gains_of colour whole (of_region region held) (hold.regions region) lt few is all in
          let made : with_region region g.pieces held ≡ next = cc (sym (ap (put_in region held) g.fits) ∙ given) in
          subst (ArePiecesOf whole) (sym (of_region-with region g.pieces held) ∙ ap (of_region region) made) g.all

-- ---- a slice that came

module _ (region : ℕ) (bytes : List ℕ) (held : List Held) (hold : IsHold held) (few : length bytes < 2 ^ 32) where
  -- what is held where the region has four pieces or not
  abbrev sliced_by : Bool → List Held
  sliced_by four = if four then held else with_region region (four_of bytes) held

  pub takes_slice : TakesSlice region bytes held (sliced region bytes held)
  takes_slice = elim (cases_eq (length (of_region region held)) 4) [
    | inl four ↦ subst (TakesSlice region bytes held) (sym (ap sliced_by (eq-eqb (length (of_region region held)) 4 four))) (record {
      hold = hold;
      others = λ other apart. refl;
      whole = λ fewer. absurd (fewer four);
      already = λ there. refl;
    })
    | inr fewer ↦ subst (TakesSlice region bytes held) (sym (ap sliced_by (ne_eqb (length (of_region region held)) 4 fewer))) (record {
      hold = with_region-hold region (four_of bytes) held hold (ArePieces-four bytes few);
      others = of_region-other region (four_of bytes) held;
      whole = λ _. of_region-with region (four_of bytes) held;
      already = λ four. absurd (fewer four);
    })
  ]
