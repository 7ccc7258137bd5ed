-- Held pieces by their names, and the values that they stand for: what is held of a region, and which regions are whole.
use Rattle.std.proofs.Common.{◌≡◌, ◌∙◌, ◌==◌, ◌&&◌, ◌||◌, ℕ, ◌^◌, ◌<◌, nat_lt, Bool, true, false, cond, is_some}
use Rattle.std.proofs.Common.{List, [], ◌∷◌, ◌++◌, length, map, Option, Some, None, Result, Ok, refl, sym, ap, arith}
use Rattle.std.specs.List.{filter, find}
use Rattle.std.specs.Option.{option_and_then, option_map}
use Rattle.std.specs.Result.{result_ok}
use Rattle.std.proofs.lemmas.Bool.{and_parts, eqb-true, false≢true}
use borrow.Author.Tests.{ltb-true, ltb-false}
use Rattle.std.proofs.lemmas.List.{length-map}
use Rattle.cs_base.specs.Ascending.{at_key, placed_by}
use Rattle.cs_core.specs.Holding.{least_slice, slice_in, slice_of}
use Rattle.cs_core.specs.Node.{has_pair}
use Rattle.cs_core.specs.Taking.{are_whole as are_whole_values, slices_in}
use Rattle.cs_fields.specs.declared.fault.PacketFault.{PacketFault}
use Rattle.cs_group.specs.Group.{is_among}
use Rattle.cs_hold.specs.Held.{Held, in_region, of_region, piece_in, with_region}
use Rattle.cs_hold.specs.Pieces.{colour_of}
use Rattle.cs_hold.specs.Whole.{given_by, is_whole_in, least_whole as least_values, whole_in}
use Rattle.cs_hold.proofs.Takes.{given_by-few, given_by-four}
use Rattle.cs_item.specs.declared.slice.Slice.{Slice}
use Rattle.cs_piece.specs.Blocks.{piece_of}
use Rattle.cs_slicer.proofs.Beside.{at_key-beside, beside}
use Rattle.cs_view.proofs.Finding.{find_passes}
use Rattle.cs_machine.specs.Held.{all_colours, are_whole, colours_in, is_whole, least_whole, with_colours}

-- a filter of a list whose elements are made of others
filter-made : {S T : Type 0} (f : S → T) (p : T → Bool) (q : S → Bool) → ((s : S) → p (f s) ≡ q s) → (xs : List S)
    → filter p (map f xs) ≡ map f (filter q xs)
filter-made f p q same [] = refl
filter-made f p q same (x ∷ xs) = go (q x) (same x) (filter-made f p q same xs)
  where
    go : (b : Bool) → p (f x) ≡ b → filter p (map f xs) ≡ map f (filter q xs)
        → cond (p (f x)) (f x ∷ filter p (map f xs)) (filter p (map f xs)) ≡ map f (cond b (x ∷ filter q xs) (filter q xs))
    go true is rest = rw (is, rest) refl
    go false is rest = rw (is, rest) refl

map-append : {S T : Type 0} (f : S → T) (xs ys : List S) → map f (xs ++ ys) ≡ map f xs ++ map f ys
map-append f [] ys = refl
map-append f (x ∷ xs) ys = ap (λ zs. f x ∷ zs) (map-append f xs ys)

-- a pair is among some where its colour is among those of its region
pub pair-among : (held : List (ℕ × ℕ)) (o k : ℕ) → has_pair held o k ≡ is_among (colours_in o held) k
pair-among [] o k = refl
pair-among (p ∷ ps) o k = go (p.0 == o) (pair-among ps o k)
  where
    go : (b : Bool) → has_pair ps o k ≡ is_among (colours_in o ps) k
        → ((b && (p.1 == k)) || has_pair ps o k)
        ≡ is_among (map (λ (pair : ℕ × ℕ). pair.1) (cond b (p ∷ filter (λ (pair : ℕ × ℕ). pair.0 == o) ps) (filter (λ (pair : ℕ × ℕ). pair.0 == o) ps))) k
    go true rest = ap (λ b. (p.1 == k) || b) rest
    go false rest = rest

module _ (bytes : ℕ → List ℕ) where
  -- the piece that a pair stands for
  abbrev pub for : ℕ × ℕ → Held
  for pair = record { region = pair.0; colour = pair.1; bytes = piece_of (bytes pair.0) pair.1 }

  -- a colour of a region with its piece
  abbrev pub mark : ℕ → ℕ → ℕ × List ℕ
  mark o k = beside (piece_of (bytes o)) k

  -- the pieces of a region are those of its colours
  pub of_region-for : (o : ℕ) (held : List (ℕ × ℕ)) → of_region o (map for held) ≡ map (mark o) (colours_in o held)
  of_region-for o [] = refl
  of_region-for o (p ∷ ps) = go (p.0 == o) refl (of_region-for o ps)
    where
      go : (b : Bool) → (p.0 == o) ≡ b → of_region o (map for ps) ≡ map (mark o) (colours_in o ps)
          → of_region o (map for (p ∷ ps)) ≡ map (mark o) (colours_in o (p ∷ ps))
      go true is rest =
          (let same : p.0 ≡ o = eqb-true p.0 o is in
          rw is (ap (λ n. (p.1, piece_of (bytes n) p.1) ∷ of_region o (map for ps)) same ∙ ap (λ (ys : List (ℕ × List ℕ)). mark o p.1 ∷ ys) rest))
      go false is rest = rw is rest

  -- other pieces of a region, by their colours
  pub with_region-for : (o : ℕ) (ks : List ℕ) (held : List (ℕ × ℕ))
      → with_region o (map (mark o) ks) (map for held) ≡ map for (with_colours o ks held)
  with_region-for o ks held =
      let below : ℕ × ℕ → Bool = λ (pair : ℕ × ℕ). nat_lt pair.0 o in
      let above : ℕ × ℕ → Bool = λ (pair : ℕ × ℕ). nat_lt o pair.0 in
      let front = filter-made for (λ (h : Held). nat_lt h.region o) below (λ pair. refl) held in
      let behind = filter-made for (λ (h : Held). nat_lt o h.region) above (λ pair. refl) held in
      ap (λ (hs : List Held). hs ++ in_region o (map (mark o) ks) ++ filter (λ (h : Held). nat_lt o h.region) (map for held)) front
      ∙ (ap (λ (hs : List Held). map for (filter below held) ++ in_region o (map (mark o) ks) ++ hs) behind
      ∙ (ap (λ (hs : List Held). map for (filter below held) ++ hs ++ map for (filter above held)) (in_region-for ks)
      ∙ sym (map-append for (filter below held ++ map (λ colour. (o, colour)) ks) (filter above held)
      ∙ ap (λ (hs : List Held). hs ++ map for (filter above held)) (map-append for (filter below held) (map (λ colour. (o, colour)) ks)))))
    where
      in_region-for : (ls : List ℕ) → in_region o (map (mark o) ls) ≡ map for (map (λ colour. (o, colour)) ls)
      in_region-for [] = refl
      in_region-for (l ∷ ls) = ap (λ (hs : List Held). for (o, l) ∷ hs) (in_region-for ls)

  -- a piece that is placed among those of a region
  pub placed-for : (o k : ℕ) (ks : List ℕ) → placed_by colour_of (mark o k) (map (mark o) ks) ≡ map (mark o) (placed_by (λ n. n) k ks)
  placed-for o k [] = refl
  placed-for o k (l ∷ ls) = go (nat_lt k l) (k == l) (placed-for o k ls)
    where
      go : (below same : Bool) → placed_by colour_of (mark o k) (map (mark o) ls) ≡ map (mark o) (placed_by (λ n. n) k ls)
          → cond below (mark o k ∷ mark o l ∷ map (mark o) ls)
          (cond same (mark o k ∷ map (mark o) ls) (mark o l ∷ placed_by colour_of (mark o k) (map (mark o) ls)))
          ≡ map (mark o) (cond below (k ∷ l ∷ ls) (cond same (k ∷ ls) (l ∷ placed_by (λ n. n) k ls)))
      go true same rest = refl
      go false true rest = refl
      go false false rest = ap (λ (ps : List (ℕ × List ℕ)). mark o l ∷ ps) rest

  -- the bytes of a held piece
  pub piece_in-for : (o k : ℕ) (held : List (ℕ × ℕ))
      → piece_in o k (map for held) ≡ cond (has_pair held o k) (Some (piece_of (bytes o) k)) None
  piece_in-for o k held =
      ap (λ (ps : List (ℕ × List ℕ)). option_map (λ (piece : ℕ × List ℕ). piece.1) (at_key colour_of k ps)) (of_region-for o held)
      ∙ (ap (option_map (λ (piece : ℕ × List ℕ). piece.1)) (at_key-beside (piece_of (bytes o)) k (colours_in o held))
      ∙ (go (is_among (colours_in o held) k)
      ∙ ap (λ b. cond b (Some (piece_of (bytes o) k)) None) (sym (pair-among held o k))))
    where
      go : (b : Bool) → option_map (λ (piece : ℕ × List ℕ). piece.1) (cond b (Some (mark o k)) None) ≡ cond b (Some (piece_of (bytes o) k)) None
      go true = refl
      go false = refl

  -- whether a piece is held
  pub there-for : (o k : ℕ) (held : List (ℕ × ℕ)) → is_some (piece_in o k (map for held)) ≡ has_pair held o k
  there-for o k held = ap is_some (piece_in-for o k held) ∙ go (has_pair held o k)
    where
      go : (b : Bool) → is_some (cond b (Some (piece_of (bytes o) k)) None) ≡ b
      go true = refl
      go false = refl

  -- whether a region is whole
  pub is_whole-for : (o : ℕ) (held : List (ℕ × ℕ)) → is_whole_in (map for held) o ≡ is_whole held o
  is_whole-for o held =
      ap (λ (ps : List (ℕ × List ℕ)). length ps == 4) (of_region-for o held)
      ∙ ap (λ n. n == 4) (length-map (colours_in o held) (mark o))

  -- the least whole region
  pub least_whole-for : (held : List (ℕ × ℕ)) → least_values (map for held) ≡ least_whole held
  least_whole-for held = go held
    where
      go : (ps : List (ℕ × ℕ))
          → find (is_whole_in (map for held)) (map (λ (h : Held). h.region) (map for ps)) ≡ find (is_whole held) (map (λ (pair : ℕ × ℕ). pair.0) ps)
      go [] = refl
      go (p ∷ ps) =
          ap (λ b. cond b (Some p.0) (find (is_whole_in (map for held)) (map (λ (h : Held). h.region) (map for ps)))) (is_whole-for p.0 held)
          ∙ ap (λ (o : Option ℕ). cond (is_whole held p.0) (Some p.0) o) (go ps)

  -- the bytes of a region that has few pieces or all
  pub whole_in-for : (held : List (ℕ × ℕ)) (o : ℕ) → (2 < length (colours_in o held) → colours_in o held ≡ all_colours)
      → (is_whole held o ≡ true → length (bytes o) < 2 ^ 32) → whole_in o (map for held) ≡ cond (is_whole held o) (Some (bytes o)) None
  whole_in-for held o whole few = ap given_by (of_region-for o held) ∙ go (is_whole held o) refl
    where
      go : (b : Bool) → is_whole held o ≡ b → given_by (map (mark o) (colours_in o held)) ≡ cond b (Some (bytes o)) None
      go true is =
          let four : length (colours_in o held) ≡ 4 = eqb-true (length (colours_in o held)) 4 is in
          let many : 2 < length (colours_in o held) = omega (arith, four) in
          ap (λ ks. given_by (map (mark o) ks)) (whole many) ∙ given_by-four (bytes o) (few is)
      go false is = given_by-few (map (mark o) (colours_in o held)) (omega (arith, length-map (colours_in o held) (mark o), small))
        where
          small : length (colours_in o held) < 3
          small = by_size (nat_lt 2 (length (colours_in o held))) refl
            where
              by_size : (b : Bool) → nat_lt 2 (length (colours_in o held)) ≡ b → length (colours_in o held) < 3
              by_size true e =
                  let many : 2 < length (colours_in o held) = omega (arith, ltb-true, e) in
                  absurd (false≢true (sym is ∙ ap (λ ks. length ks == 4) (whole many)))
              by_size false e = omega (arith, ltb-false, e)

  module _ (held : List (ℕ × ℕ)) (whole : (o : ℕ) → 2 < length (colours_in o held) → colours_in o held ≡ all_colours)
      (slice : ℕ → Slice) (few : (o : ℕ) → is_whole held o ≡ true → length (bytes o) < 2 ^ 32)
      (reads : (o : ℕ) → is_whole held o ≡ true → slice_of (bytes o) ≡ (let r : Result Slice PacketFault = Ok (slice o) in r)) where
    -- the slice of a whole region
    pub slice_in-for : (o : ℕ) → slice_in o (map for held) ≡ cond (is_whole held o) (Some (slice o)) None
    slice_in-for o =
        ap (option_and_then (λ bs. result_ok (slice_of bs))) (whole_in-for held o (whole o) (few o)) ∙ go (is_whole held o) refl
      where
        go : (b : Bool) → is_whole held o ≡ b
            → option_and_then (λ bs. result_ok (slice_of bs)) (cond b (Some (bytes o)) None) ≡ cond b (Some (slice o)) None
        go true is = ap result_ok (reads o is)
        go false is = refl

    -- the slice of the least whole region
    pub least_slice-for : least_slice (map for held) ≡ option_map slice (least_whole held)
    least_slice-for =
        ap (option_and_then (λ region. slice_in region (map for held))) (least_whole-for held) ∙ go (least_whole held) refl
      where
        go : (o : Option ℕ) → least_whole held ≡ o → option_and_then (λ region. slice_in region (map for held)) o ≡ option_map slice o
        go None is = refl
        go (Some w) is =
            slice_in-for w
            ∙ ap (λ b. cond b (Some (slice w)) None) (find_passes (is_whole held) (map (λ (pair : ℕ × ℕ). pair.0) held) w is)

    -- whether regions are whole
    pub are_whole-for : (rs : List ℕ) → are_whole_values (map for held) rs ≡ are_whole held rs
    are_whole-for [] = refl
    are_whole-for (r ∷ rs) =
        ap (λ (o : Option Slice). is_some o && are_whole_values (map for held) rs) (slice_in-for r)
        ∙ (go (is_whole held r) ∙ ap (λ b. is_whole held r && b) (are_whole-for rs))
      where
        go : (b : Bool) → (is_some (cond b (Some (slice r)) None) && are_whole_values (map for held) rs) ≡ (b && are_whole_values (map for held) rs)
        go true = refl
        go false = refl

    -- their slices
    pub slices_in-for : (rs : List ℕ) → are_whole held rs ≡ true → slices_in (map for held) rs ≡ map slice rs
    slices_in-for [] all = refl
    slices_in-for (r ∷ rs) all =
        let parts = and_parts (is_whole held r) (are_whole held rs) all in
        let there : slice_in r (map for held) ≡ Some (slice r) =
        slice_in-for r ∙ ap (λ b. cond b (Some (slice r)) None) parts.0 in
        rw there (ap (λ (ss : List Slice). slice r ∷ ss) (slices_in-for rs parts.1))
