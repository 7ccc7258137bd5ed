-- What is held after a piece or a slice came, by names and in values.
use Rattle.std.proofs.Common.{◌≡◌, ◌∙◌, ◌==◌, ◌||◌, ℕ, ◌^◌, ◌<◌, Bool, true, false, cond, is_some}
use Rattle.std.proofs.Common.{List, [], ◌∷◌, length, map, Option, Some, None, Result, Ok, refl, sym, ap, subst, arith}
use Rattle.std.specs.List.{AllByRecursion, filter}
use Rattle.std.proofs.lemmas.Bool.{eq-eqb, eqb-true, false≢true}
use Rattle.std.proofs.lemmas.Bool.Decides.{nat_tests}
use Rattle.std.proofs.lemmas.List.{length-map}
use Rattle.cs_base.specs.Ascending.{IsAscending, IsAscendingBy, at_key}
use Rattle.cs_base.specs.Limits.{colours}
use Rattle.cs_base.proofs.Ascending.{All-of_filter, IsAscendingBy-filter}
use Rattle.cs_base.proofs.Elements.{All-changed}
use Rattle.cs_core.specs.Node.{has_pair}
use Rattle.cs_group.specs.Group.{is_among}
use Rattle.cs_hold.specs.Held.{Held, of_region}
use Rattle.cs_hold.specs.Pieces.{ArePieces, colour_of, four_from, gained as gained_values}
use Rattle.cs_hold.specs.Taking.{put_in, taken}
use Rattle.cs_hold.proofs.Gained.{ArePieces-four, ArePieces-placed, three_colours}
use Rattle.cs_hold.proofs.Regions.{of_region-with}
use Rattle.cs_piece.specs.Blocks.{piece_of}
use Rattle.cs_piece.specs.declared.fault.PieceFault.{PieceFault}
use Rattle.cs_piece.proofs.Pieces.{joined-pieces}
use Rattle.cs_slicer.proofs.Beside.{IsAscendingBy-beside, at_key-beside}
use Rattle.cs_slicer.proofs.Regions.{among-placed}
use Rattle.cs_machine.specs.Held.{all_colours, colours_in, gained, with_colours}
use Rattle.cs_machine.specs.Reached.{order_of}
use Rattle.cs_machine.proofs.HeldValues.{for, mark, of_region-for, pair-among, placed-for, with_region-for}

-- held pairs by themselves: they ascend, with few colours of a region or all
pub record AreFew (held : List (ℕ × ℕ)) : Type 0 where
  pub ascending : IsAscendingBy order_of held
  pub below : AllByRecursion (λ (pair : ℕ × ℕ). pair.1 < colours) held
  pub whole : (region : ℕ) → 2 < length (colours_in region held) → colours_in region held ≡ all_colours

-- pairs of one region ascend as their colours do
colours-up : (o : ℕ) (ps : List (ℕ × ℕ)) → AllByRecursion (λ (p : ℕ × ℕ). p.0 ≡ o) ps → IsAscendingBy order_of ps
    → IsAscending (map (λ (pair : ℕ × ℕ). pair.1) ps)
colours-up o [] same up = tt
colours-up o (p ∷ ps) same up = (above ps same.1 up.0, colours-up o ps same.1 up.1)
  where
    above : (qs : List (ℕ × ℕ)) → AllByRecursion (λ (q : ℕ × ℕ). q.0 ≡ o) qs → AllByRecursion (λ (q : ℕ × ℕ). order_of p < order_of q) qs
        → AllByRecursion (λ k. p.1 < k) (map (λ (pair : ℕ × ℕ). pair.1) qs)
    above [] are all = tt
    above (q ∷ qs) are all =
        (let here : p.0 ≡ o = same.0 in let there : q.0 ≡ o = are.0 in omega (arith, here, there, all.0), above qs are.1 all.1)

-- the pairs of a region have it
of-region : (o : ℕ) (ps : List (ℕ × ℕ)) → AllByRecursion (λ (p : ℕ × ℕ). p.0 ≡ o) (filter (λ (pair : ℕ × ℕ). pair.0 == o) ps)
of-region o [] = tt
of-region o (p ∷ ps) = go (p.0 == o) refl (of-region o ps)
  where
    go : (b : Bool) → (p.0 == o) ≡ b → AllByRecursion (λ (p : ℕ × ℕ). p.0 ≡ o) (filter (λ (pair : ℕ × ℕ). pair.0 == o) ps)
        → AllByRecursion (λ (p : ℕ × ℕ). p.0 ≡ o)
        (cond b (p ∷ filter (λ (pair : ℕ × ℕ). pair.0 == o) ps) (filter (λ (pair : ℕ × ℕ). pair.0 == o) ps))
    go true is rest = (eqb-true p.0 o is, rest)
    go false is rest = rest

-- a list ascends whose images do
pub ascending-of : {S T : Type 0} (key : T → ℕ) (f : S → T) (xs : List S) → IsAscendingBy key (map f xs) → IsAscendingBy (λ x. key (f x)) xs
ascending-of key f [] up = tt
ascending-of key f (x ∷ xs) up = (above xs up.0, ascending-of key f xs up.1)
  where
    above : (ys : List _) → AllByRecursion (λ y. key (f x) < key y) (map f ys) → AllByRecursion (λ y. key (f x) < key (f y)) ys
    above [] all = tt
    above (y ∷ ys) all = (all.0, above ys all.1)

module _ (bytes : ℕ → List ℕ) (held : List (ℕ × ℕ)) (few : AreFew held) where
  -- the colours of a region ascend
  up : (o : ℕ) → IsAscending (colours_in o held)
  up o =
      colours-up o (filter (λ (pair : ℕ × ℕ). pair.0 == o) held) (of-region o held)
      (IsAscendingBy-filter order_of (λ (pair : ℕ × ℕ). pair.0 == o) held few.ascending)

  -- and are colours
  below : (o : ℕ) → AllByRecursion (λ k. k < colours) (colours_in o held)
  below o =
      All-changed (λ (pair : ℕ × ℕ). pair.1 < colours) (λ k. k < colours) (λ (pair : ℕ × ℕ). pair.1) (λ pair lt. lt)
      (filter (λ (pair : ℕ × ℕ). pair.0 == o) held)
      (All-of_filter (λ (pair : ℕ × ℕ). pair.1 < colours) (λ (pair : ℕ × ℕ). pair.0 == o) held few.below)

  -- pieces of a region whose bytes are few
  pub pieces-are : (o : ℕ) → length (bytes o) < 2 ^ 32 → ArePieces (map (mark bytes o) (colours_in o held))
  pieces-are o short = record {
    ascending = IsAscendingBy-beside (piece_of (bytes o)) (colours_in o held) (up o);
    allowed = All-changed (λ k. k < colours) (λ (p : ℕ × List ℕ). colour_of p < colours) (mark bytes o) (λ k lt. lt) (colours_in o held) (below o);
    whole = λ many.
        (let many_colours : 2 < length (colours_in o held) = omega (arith, many, length-map (colours_in o held) (mark bytes o)) in
        record { bytes = bytes o; few = short; all = ap (map (mark bytes o)) (few.whole o many_colours) });
  }

  module _ (o k : ℕ) (short : length (bytes o) < 2 ^ 32) (lt : k < colours) (new : has_pair held o k ≡ false) where
    -- the colour isn't there
    absent : (ks : List ℕ) → is_among ks k ≡ false → at_key colour_of k (map (mark bytes o) ks) ≡ None
    absent ks not_there = at_key-beside (piece_of (bytes o)) k ks ∙ ap (λ b. cond b (Some (mark bytes o k)) None) not_there

    -- what the region gains
    gained-for : (ks : List ℕ) → ArePieces (map (mark bytes o) ks) → is_among ks k ≡ false
        → gained_values k (piece_of (bytes o) k) (map (mark bytes o) ks)
        ≡ (let r : Result (List (ℕ × List ℕ)) PieceFault = Ok (map (mark bytes o) (gained k ks)) in r)
    gained-for [] are not_there = refl
    gained-for (x ∷ []) are not_there =
        ap (λ (ps : List (ℕ × List ℕ)). (let r : Result (List (ℕ × List ℕ)) PieceFault = Ok ps in r)) (placed-for bytes o k (x ∷ []))
    gained-for (x ∷ y ∷ []) are not_there =
        ap four_from (joined-pieces (bytes o) short k x y
        (three_colours k (mark bytes o x) (mark bytes o y) lt are (absent (x ∷ y ∷ []) not_there)))
    gained-for (x ∷ y ∷ z ∷ rest) are not_there =
        ap (λ (ps : List (ℕ × List ℕ)). (let r : Result (List (ℕ × List ℕ)) PieceFault = Ok ps in r)) (placed-for bytes o k (x ∷ y ∷ z ∷ rest))

    -- the colours of the region then
    abbrev pub next_colours : List ℕ
    next_colours = gained k (colours_in o held)

    -- a piece that comes is taken
    pub taken-for : taken o k (piece_of (bytes o) k) (map (for bytes) held)
        ≡ (let r : Result (List Held) PieceFault = Ok (map (for bytes) (with_colours o next_colours held)) in r)
    taken-for =
        let not_there : is_among (colours_in o held) k ≡ false = sym (pair-among held o k) ∙ new in
        let hs = map (for bytes) held in
        let at : List (ℕ × List ℕ) → Result (List Held) PieceFault = λ ps.
        cond (is_some (at_key colour_of k ps)) (Ok hs) (put_in o hs (gained_values k (piece_of (bytes o) k) ps)) in
        ap at (of_region-for bytes o held)
        ∙ (ap (λ (p : Option (ℕ × List ℕ)). cond (is_some p) (Ok hs) (put_in o hs (gained_values k (piece_of (bytes o) k)
        (map (mark bytes o) (colours_in o held))))) (absent (colours_in o held) not_there)
        ∙ (ap (put_in o hs) (gained-for (colours_in o held) (pieces-are o short) not_there)
        ∙ ap (λ (ps : List Held). (let r : Result (List Held) PieceFault = Ok ps in r)) (with_region-for bytes o next_colours held)))

    -- every colour is among all four
    among-all : is_among all_colours k ≡ true
    among-all = grind (arith, nat_tests, lt)

    -- the pieces of the region then are few, or all
    pub gained-are : (ks : List ℕ) → ArePieces (map (mark bytes o) ks) → is_among ks k ≡ false → (2 < length ks → ks ≡ all_colours)
        → ArePieces (map (mark bytes o) (gained k ks))
    gained-are [] are not_there all = subst ArePieces (placed-for bytes o k []) (ArePieces-placed k (piece_of (bytes o) k) [] are lt (omega arith))
    gained-are (x ∷ []) are not_there all =
        subst ArePieces (placed-for bytes o k (x ∷ [])) (ArePieces-placed k (piece_of (bytes o) k) (mark bytes o x ∷ []) are lt (omega arith))
    gained-are (x ∷ y ∷ []) are not_there all = ArePieces-four (bytes o) short
    gained-are (x ∷ y ∷ z ∷ rest) are not_there all =
        absurd (false≢true (sym not_there ∙ (ap (λ ks. is_among ks k) (all (omega arith)) ∙ among-all)))

    -- what came is among them
    pub among-gained : (ks : List ℕ) → is_among (gained k ks) k ≡ true
    among-gained [] = ap (λ b. b || false) (eq-eqb k k refl)
    among-gained (x ∷ []) = among-placed k k (x ∷ []) ∙ ap (λ b. b || is_among (x ∷ []) k) (eq-eqb k k refl)
    among-gained (x ∷ y ∷ []) = among-all
    among-gained (x ∷ y ∷ z ∷ rest) = among-placed k k (x ∷ y ∷ z ∷ rest) ∙ ap (λ b. b || is_among (x ∷ y ∷ z ∷ rest) k) (eq-eqb k k refl)

-- the colours of marked pieces
pub marks : (bytes : ℕ → List ℕ) (o : ℕ) (ks : List ℕ) → map (λ (p : ℕ × List ℕ). p.0) (map (mark bytes o) ks) ≡ ks
marks bytes o [] = refl
marks bytes o (k ∷ ks) = ap (λ ls. k ∷ ls) (marks bytes o ks)

-- a region with other colours has these
pub colours-with : (o : ℕ) (ks : List ℕ) (held : List (ℕ × ℕ)) → colours_in o (with_colours o ks held) ≡ ks
colours-with o ks held =
    let none : ℕ → List ℕ = λ n. [] in
    sym (marks none o (colours_in o (with_colours o ks held)))
    ∙ (ap (map (λ (p : ℕ × List ℕ). p.0)) (sym (of_region-for none o (with_colours o ks held))
    ∙ (ap (of_region o) (sym (with_region-for none o ks held))
    ∙ of_region-with o (map (mark none o) ks) (map (for none) held))) ∙ marks none o ks)
