-- The slices that were read are those of the held pieces, also after a piece or a slice came.
use Rattle.std.proofs.Common.{◌≡◌, ◌≢◌, ℕ, ◌<◌, ◌≤◌, if◌then◌else◌, List, [], ◌∷◌, length}
use Rattle.std.proofs.Common.{is_some, Option, Some, None, IfSome, IfNone, Result, Ok, Err, refl, sym, ap, subst, ◌∙◌, inl, inr, arith}
use Rattle.std.specs.Option.{option_and_then, option_map_or}
use Rattle.std.specs.Result.{result_ok}
use Rattle.std.proofs.lemmas.Bool.{cases_eq, eq-eqb, ne_eqb}
use Rattle.std.proofs.lemmas.Bool.Decides.{nat_tests}
use Rattle.cs_base.specs.Ascending.{at_key, placed_by}
use Rattle.cs_base.proofs.Ascending.{find-placed}
use Rattle.cs_hold.specs.Held.{Held, of_region, with_region}
use Rattle.cs_hold.specs.Kept.{AreOthersKept}
use Rattle.cs_hold.specs.Pieces.{colour_of, four_from, four_of, gained}
use Rattle.cs_hold.specs.Taking.{put_in, sliced, taken}
use Rattle.cs_hold.specs.Whole.{given_by}
use Rattle.cs_hold.proofs.Regions.{of_region-other, of_region-with}
use Rattle.cs_hold.proofs.Takes.{given_by-few, given_by-four}
use Rattle.cs_item.specs.SliceField.{IsSlice, slice_bytes}
use Rattle.cs_item.specs.declared.slice.Slice.{Slice}
use Rattle.cs_piece.specs.Joining.{joined}
use Rattle.cs_piece.specs.declared.fault.PieceFault.{PieceFault}
use Rattle.cs_core.specs.Holding.{slice_in, slice_of, slice_region}
use Rattle.cs_core.proofs.Gains.{slice-few, slice_of-bytes}

-- the slices are those of the held pieces
abbrev pub AreRead : List Slice → List Held → Type 0
AreRead slices held = (region : ℕ) → at_key slice_region region slices ≡ slice_in region held

-- the slice of some pieces
abbrev slice_by : List (ℕ × List ℕ) → Option Slice
slice_by pieces = option_and_then (λ bytes. result_ok (slice_of bytes)) (given_by pieces)

-- two pieces give none
slice-few_pieces : (region : ℕ) (held : List Held) → length (of_region region held) < 3 → slice_in region held ≡ None
slice-few_pieces region held few = ap (option_and_then (λ (bytes : List ℕ). result_ok (slice_of bytes))) (given_by-few (of_region region held) few)

-- ---- what taking leaves

-- one more piece makes no fewer
length-placed-le : (piece : ℕ × List ℕ) (pieces : List (ℕ × List ℕ)) → length pieces ≤ length (placed_by colour_of piece pieces)
length-placed-le piece [] = omega arith
length-placed-le piece (p ∷ ps) = grind (arith, nat_tests, length-placed-le piece ps)

length-gained : (colour : ℕ) (bytes : List ℕ) (before after : List (ℕ × List ℕ)) → gained colour bytes before ≡ Ok after → length before ≤ length after
length-gained colour bytes [] after e = omega arith
length-gained colour bytes (x ∷ []) after e = placed (cc)
  where
    placed : placed_by colour_of (colour, bytes) (x ∷ []) ≡ after → length (x ∷ []) ≤ length after
    placed same = omega (arith, ap length same, length-placed-le (colour, bytes) (x ∷ []))
length-gained colour bytes (x ∷ y ∷ []) after e = by (joined colour bytes x.0 x.1 y.0 y.1) e
  where
    by : (given : Result (List ℕ) PieceFault) → four_from given ≡ Ok after → length (x ∷ y ∷ []) ≤ length after
    by (Ok whole) e = let same : four_of whole ≡ after = cc in omega (arith, ap length same)
    by (Err fault) e = absurd (cc)
length-gained colour bytes (x ∷ y ∷ z ∷ rest) after e = placed (cc)
  where
    placed : placed_by colour_of (colour, bytes) (x ∷ y ∷ z ∷ rest) ≡ after → length (x ∷ y ∷ z ∷ rest) ≤ length after
    placed same = omega (arith, ap length same, length-placed-le (colour, bytes) (x ∷ y ∷ z ∷ rest))

-- the other regions are as before, and the region has no fewer pieces
record IsKept (region : ℕ) (held next : List Held) : Type 0 where
  others : AreOthersKept region held next
  more : length (of_region region held) ≤ length (of_region region next)

kept-taken : (region colour : ℕ) (bytes : List ℕ) (held next : List Held) → taken region colour bytes held ≡ Ok next → IsKept region held next
kept-taken region colour bytes held next given = by (at_key colour_of colour (of_region region held)) given
  where
    put : (pieces : Result (List (ℕ × List ℕ)) PieceFault) → gained colour bytes (of_region region held) ≡ pieces → put_in region held pieces ≡ Ok next
        → IsKept region held next
    put (Ok pieces) gains e =
        let same : with_region region pieces held ≡ next = cc in
        subst (IsKept region held) same (record {
          others = of_region-other region pieces held;
          more = omega (arith, length-gained colour bytes (of_region region held) pieces gains, ap length (of_region-with region pieces held));
        })
    put (Err fault) gains e = absurd (cc)

    by : (found : Option (ℕ × List ℕ)) → (if is_some found then Ok held else put_in region held (gained colour bytes (of_region region held))) ≡ Ok next
        → IsKept region held next
    by (Some p) e = let same : held ≡ next = cc in subst (IsKept region held) same (record { others = λ other apart. refl; more = omega arith })
    by None e = put (gained colour bytes (of_region region held)) refl e

-- ---- the slices then

module _ (slices : List Slice) (held next : List Held) (region : ℕ) (others : AreOthersKept region held next) (read : AreRead slices held) where
  -- of another region the slice is as before
  read-other : (other : ℕ) → other ≢ region → at_key slice_region other slices ≡ slice_in other next
  read-other other apart = read other ∙ ap slice_by (sym (others other apart))

  -- without a new slice the region had none
  read-none : slice_in region held ≡ None → slice_in region next ≡ None → AreRead slices next
  read-none before after other = elim (cases_eq other region) [
    | inl same ↦ ap (λ r. at_key slice_region r slices) same ∙ read region ∙ before ∙ sym after ∙ ap (λ r. slice_in r next) (sym same)
    | inr apart ↦ read-other other apart
  ]

  -- a new slice is that of the region
  read-some : (s : Slice) → s.part.region ≡ region → slice_in region next ≡ Some s → AreRead (placed_by slice_region s slices) next
  read-some s own is other = find-placed slice_region s other slices ∙ elim (cases_eq other region) [
    | inl same ↦
        ap (λ b. if b then Some s else at_key slice_region other slices) (eq-eqb s.part.region other (own ∙ sym same))
        ∙ sym is
        ∙ ap (λ r. slice_in r next) (sym same)
    | inr apart ↦
        ap (λ b. if b then Some s else at_key slice_region other slices) (ne_eqb s.part.region other (λ e. apart (sym e ∙ own)))
        ∙ read-other other apart
  ]

-- after a piece came
pub read-piece : (region colour : ℕ) (bytes : List ℕ) (held next : List Held) (slices : List Slice) (slice : Option Slice)
    → AreRead slices held → taken region colour bytes held ≡ Ok next → slice ≡ slice_in region next
    → IfSome slice (λ (s : Slice). IsSlice s × (s.part.region ≡ region)) → IfNone slice (length (of_region region next) < 3)
    → AreRead (option_map_or (λ (s : Slice). placed_by slice_region s slices) slice slices) next
read-piece region colour bytes held next slices None read given is some none =
    let kept = kept-taken region colour bytes held next given in
    read-none slices held next region kept.others read (slice-few_pieces region held (omega (arith, kept.more, none))) (sym is)
read-piece region colour bytes held next slices (Some s) read given is some none =
    let kept = kept-taken region colour bytes held next given in
    read-some slices held next region kept.others read s some.1 (sym is)

-- after a slice came
pub read-slice : (held : List Held) (slices : List Slice) (s : Slice) → AreRead slices held → IsSlice s
    → length (of_region s.part.region held) ≢ 4
    → AreRead (placed_by slice_region s slices) (sliced s.part.region (slice_bytes s) held)
read-slice held slices s read is absent =
    let region = s.part.region in
    let four = four_of (slice_bytes s) in
    let next : List Held = with_region region four held in
    let made : sliced region (slice_bytes s) held ≡ next =
    ap (λ b. if b then held else with_region region four held) (ne_eqb (length (of_region region held)) 4 absent) in
    let own : slice_in region next ≡ Some s =
    ap slice_by (of_region-with region four held)
    ∙ ap (option_and_then (λ (bytes : List ℕ). result_ok (slice_of bytes))) (given_by-four (slice_bytes s) (omega (arith, slice-few s is)))
    ∙ ap result_ok (slice_of-bytes s is) in
    subst (AreRead (placed_by slice_region s slices)) (sym made)
    (read-some slices held next region (of_region-other region four held) read s refl own)
