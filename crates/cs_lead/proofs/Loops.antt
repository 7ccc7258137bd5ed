-- Loops over colours and slices: what one more adds, and what stands at a place.
use Rattle.std.proofs.Common.{◌≡◌, ℕ, zero, suc, ◌+◌, ◌<◌, List, [], ◌∷◌, ◌++◌, length, take, get_or}
use Rattle.std.proofs.Common.{refl, sym, ap, ◌∙◌, add-one, arith}
use Rattle.std.specs.List.{flat_map, range_with_len}
use Rattle.std.proofs.lemmas.List.{flat_map_more, take_more}
use Rattle.cs_piece.specs.Blocks.{piece_of, pieces_of}

-- one number more stands behind the others
range-more : (a n : ℕ) → range_with_len a (suc n) ≡ range_with_len a n ++ (a + n) ∷ []
range-more a zero = let e : a + 0 ≡ a = omega arith in rw e refl
range-more a (suc n) =
    let e : (a + 1) + n ≡ a + suc n = omega arith in
    ap (λ ns. a ∷ ns) (range-more (a + 1) n ∙ ap (λ k. range_with_len (a + 1) n ++ k ∷ []) e)

-- so what it gives stands behind what they give
pub flat_range_more : {T : Type 0} (f : ℕ → List T) (before : List T) (n : ℕ)
    → (before ++ flat_map f (range_with_len 0 n)) ++ f n ≡ before ++ flat_map f (range_with_len 0 (n + 1))
flat_range_more f before n =
    let e : 0 + n ≡ n = omega arith in
    let more : range_with_len 0 (n + 1) ≡ range_with_len 0 n ++ n ∷ [] =
    ap (λ k. range_with_len 0 k) (add-one n) ∙ (range-more 0 n ∙ ap (λ k. range_with_len 0 n ++ k ∷ []) e) in
    flat_map_more f before (range_with_len 0 n) n ∙ ap (λ ns. before ++ flat_map f ns) (sym more)

-- and so does what one more element gives
pub flat_take_more : {S T : Type 0} (f : S → List T) (before : List T) (xs : List S) (i : ℕ) (x : S) → i < length xs → x ≡ get_or xs i x
    → (before ++ flat_map f (take i xs)) ++ f x ≡ before ++ flat_map f (take (i + 1) xs)
flat_take_more f before xs i x lt is =
    let more : take (i + 1) xs ≡ take i xs ++ x ∷ [] = rw is (take_more xs i x lt) in
    flat_map_more f before (take i xs) x ∙ ap (λ ys. before ++ flat_map f ys) (sym more)

-- of the four pieces, each is that of its place
pub at-pieces_of : (bytes : List ℕ) (pieces : List (List ℕ)) (i : ℕ) (piece : List ℕ) → pieces ≡ pieces_of bytes → i < 4
    → piece ≡ get_or pieces i piece → piece ≡ piece_of bytes i
at-pieces_of bytes pieces i piece are lt is = by i lt (is ∙ ap (λ ps. get_or ps i piece) are)
  where
    by : (k : ℕ) → k < 4 → piece ≡ get_or (pieces_of bytes) k piece → piece ≡ piece_of bytes k
    by zero below e = e
    by (suc zero) below e = e
    by (suc (suc zero)) below e = e
    by (suc (suc (suc zero))) below e = e
    by (suc (suc (suc (suc k)))) below e = absurd (omega arith)
