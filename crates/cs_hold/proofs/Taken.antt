-- What is held after a piece or a slice came, by the shelves.
use Rattle.std.proofs.Common.{◌≡◌, ◌≢◌, ℕ, false, List, length, Option, Some, None, IsSome, Ok}
use Rattle.std.proofs.Common.{is_some, refl, sym, ap, subst, ◌∙◌, if◌then◌else◌}
use Rattle.std.specs.Option.{option_map}
use Rattle.std.proofs.lemmas.Bool.{eq-eqb, ne_eqb}
use Rattle.cs_base.specs.Ascending.{at_key, IsAscendingBy, placed_by}
use Rattle.cs_hold.specs.Held.{Held, of_region, on_shelves, piece_in, pieces_at, region_of, with_region}
use Rattle.cs_hold.specs.Pieces.{colour_of, four_of, gained}
use Rattle.cs_hold.specs.Taking.{IsFaultOf, put_in, sliced, taken}
use Rattle.cs_hold.specs.declared.fault.HoldFault.{HoldFault}
use Rattle.cs_hold.specs.declared.fault.HoldFault.TheVariants.{Piece, Memory}
use Rattle.cs_hold.proofs.Shelves.{on_shelves-placed}
use Rattle.cs_hold.proofs.Whole.{of_region-view}

-- an option that is there after a map was there before
pub some-mapped : {A B : Type 0} (f : A → B) (o : Option A) → IsSome (option_map f o) → IsSome o
some-mapped f None there = absurd (cc)
some-mapped f (Some x) there = refl

pub some-map : {A B : Type 0} (f : A → B) (o : Option A) → IsSome o → IsSome (option_map f o)
some-map f None there = absurd (cc)
some-map f (Some x) there = refl

-- what is some isn't none
pub some-none : {A : Type 0} (o : Option A) → IsSome o → o ≡ None → ⊥
some-none None there none = absurd (cc)
some-none (Some x) there none = absurd (cc)

-- what isn't some is none
pub not-some : {A : Type 0} (o : Option A) → (IsSome o → ⊥) → o ≡ None
not-some None none = refl
not-some (Some x) none = absurd (none refl)

-- what isn't there is none
none-is : {A : Type 0} (o : Option A) → o ≡ None → is_some o ≡ false
none-is o e = ap is_some e

module _ (shelves : List (ℕ × List (ℕ × List ℕ))) (held : List Held) (view : on_shelves shelves ≡ held) (up : IsAscendingBy region_of shelves)
    (region : ℕ) where
  same : of_region region held ≡ pieces_at region shelves
  same = of_region-view shelves held view up region

  module _ (colour : ℕ) where
    -- a piece of the hold is one of the region's pieces
    pub piece_in-shelves : piece_in region colour held ≡ option_map (λ piece. piece.1) (at_key colour_of colour (pieces_at region shelves))
    piece_in-shelves = ap (λ ps. option_map (λ piece. piece.1) (at_key colour_of colour ps)) same

    -- a piece that is there is seen, and one that is seen is there
    pub seen : IsSome (at_key colour_of colour (pieces_at region shelves)) → IsSome (piece_in region colour held)
    seen there = subst IsSome (sym piece_in-shelves) (some-map (λ piece. piece.1) (at_key colour_of colour (pieces_at region shelves)) there)

    pub there : IsSome (piece_in region colour held) → IsSome (at_key colour_of colour (pieces_at region shelves))
    there seen = some-mapped (λ piece. piece.1) (at_key colour_of colour (pieces_at region shelves)) (subst IsSome piece_in-shelves seen)

    module _ (bytes : List ℕ) where
      -- taking by the pieces of the region
      taken-pieces : taken region colour bytes held
          ≡ (if is_some (at_key colour_of colour (pieces_at region shelves)) then Ok held else put_in region held
          (gained colour bytes (pieces_at region shelves)))
      taken-pieces = ap (λ ps. if is_some (at_key colour_of colour ps) then Ok held else put_in region held (gained colour bytes ps)) same

      -- a piece that is there changes nothing
      pub taken-there : IsSome (at_key colour_of colour (pieces_at region shelves)) → taken region colour bytes held ≡ Ok held
      taken-there there =
          taken-pieces ∙ ap (λ b. if b then Ok held else put_in region held (gained colour bytes (pieces_at region shelves))) there

      -- else the pieces that the region gained are put in
      taken-gained : at_key colour_of colour (pieces_at region shelves) ≡ None
          → taken region colour bytes held ≡ put_in region held (gained colour bytes (pieces_at region shelves))
      taken-gained none =
          taken-pieces ∙ ap (λ b. if b then Ok held else put_in region held (gained colour bytes (pieces_at region shelves))) (none-is _ none)

      -- so the shelf is in its place
      pub taken-put : at_key colour_of colour (pieces_at region shelves) ≡ None → (s : ℕ × List (ℕ × List ℕ)) → s.0 ≡ region
          → gained colour bytes (pieces_at region shelves) ≡ Ok s.1 → (new : List (ℕ × List (ℕ × List ℕ))) → new ≡ placed_by region_of s shelves
          → taken region colour bytes held ≡ Ok (on_shelves new)
      taken-put none s of_region gains new placed =
          taken-gained none
          ∙ ap (put_in region held) gains
          ∙ ap (λ held. Ok held) (ap (λ r. with_region r s.1 held) (sym of_region) ∙ ap (with_region s.0 s.1) (sym view)
          ∙ sym (on_shelves-placed s shelves up) ∙ ap on_shelves (sym placed))

      -- or there is a fault
      pub taken-fault : at_key colour_of colour (pieces_at region shelves) ≡ None → (fault : HoldFault)
          → IsFaultOf (gained colour bytes (pieces_at region shelves)) fault → IsFaultOf (taken region colour bytes held) fault
      taken-fault none (Piece f) given = taken-gained none ∙ ap (put_in region held) given
      taken-fault none Memory given = tt

  module _ (bytes : List ℕ) where
    -- a slice whose four pieces are there changes nothing
    pub sliced-four : length (pieces_at region shelves) ≡ 4 → held ≡ sliced region bytes held
    sliced-four four = sym (ap (λ b. if b then held else with_region region (four_of bytes) held) (eq-eqb _ _ (ap length same ∙ four)))

    -- else its shelf is in its place
    pub sliced-put : length (pieces_at region shelves) ≢ 4 → (s : ℕ × List (ℕ × List ℕ)) → s.0 ≡ region → s.1 ≡ four_of bytes
        → (new : List (ℕ × List (ℕ × List ℕ))) → new ≡ placed_by region_of s shelves → on_shelves new ≡ sliced region bytes held
    sliced-put other s of_region four new placed =
        ap on_shelves placed
        ∙ on_shelves-placed s shelves up
        ∙ ap (with_region s.0 s.1) view
        ∙ ap (λ r. with_region r s.1 held) of_region
        ∙ ap (λ ps. with_region region ps held) four
        ∙ sym (ap (λ b. if b then held else with_region region (four_of bytes) held) (ne_eqb _ _ (λ e. other (sym (ap length same) ∙ e))))
