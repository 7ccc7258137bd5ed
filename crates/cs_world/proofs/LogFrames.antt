-- What the bytes of a log give, where they are frames and a torn tail.
use Rattle.std.proofs.Common.{◌≡◌, ◌∙◌, ℕ, List, [], ◌∷◌, ◌++◌, map, Option, Some, None, IfSome, IsSome, refl, sym, ap, subst, append-nil}
use Rattle.std.specs.List.{AllByRecursion}
use Rattle.std.proofs.lemmas.List.{map-append}
use Rattle.std.proofs.lemmas.List.Concat.{flat_map-append}
use Rattle.cs_log.specs.Bytes.{appended}
use Rattle.cs_log.specs.Frames.{AreFramesOf, Fits, IsTorn, frame, framed, payloads_of, placed}
use Rattle.cs_log.proofs.Readings.{frames_are_found, frames_are_one, payloads-placed}
use Rattle.cs_node.specs.Folding.{FoldsTo, fold}
use Rattle.cs_node.specs.Recovery.{AreWhole}
use Rattle.cs_node.specs.declared.folding.Folded.{Folded}

-- a log that tells has bytes
pub told-bytes : (o : Option (List ℕ)) → IsSome o → (bytes : List ℕ) × (o ≡ Some bytes)
told-bytes None told = absurd (let e = told in cc)
told-bytes (Some bytes) told = (bytes, refl)

-- bytes lead to one end
pub folds-one : (bytes : List ℕ) (one other : Folded) → FoldsTo bytes one → FoldsTo bytes other → one ≡ other
folds-one bytes one other here there =
    sym here.2 ∙ ap fold (sym (frames_are_one bytes here.0 there.0 here.1 there.1)) ∙ there.2

-- the frames of entries with one more behind
framed-more : {E : Type 0} (f : E → List ℕ) (entries : List E) (entry : E)
    → framed (map f (entries ++ entry ∷ [])) ≡ framed (map f entries) ++ frame (f entry)
framed-more f entries entry =
    ap framed (map-append f entries (entry ∷ []))
    ∙ flat_map-append frame (map f entries) (f entry ∷ [])
    ∙ ap (λ bytes. framed (map f entries) ++ bytes) (append-nil (frame (f entry)))

-- a log with a frame behind has the frames of the entries with one more, where nothing was torn
pub frame-behind : {E : Type 0} (f : E → List ℕ) (entries : List E) (entry : E) (tail : List ℕ) (old new : Option (List ℕ))
    → tail ≡ [] → new ≡ appended old (frame (f entry)) → IfSome old (λ bytes. bytes ≡ framed (map f entries) ++ tail)
    → IfSome new (λ bytes. bytes ≡ framed (map f (entries ++ entry ∷ [])) ++ tail)
frame-behind f entries entry tail old new whole is told =
    subst (λ o. IfSome o (λ bytes. bytes ≡ framed (map f (entries ++ entry ∷ [])) ++ tail)) (sym is) (go old told)
  where
    nothing : (bytes : List ℕ) → bytes ++ tail ≡ bytes
    nothing bytes = ap (λ t. bytes ++ t) whole ∙ append-nil bytes

    go : (o : Option (List ℕ)) → IfSome o (λ bytes. bytes ≡ framed (map f entries) ++ tail)
        → IfSome (appended o (frame (f entry))) (λ bytes. bytes ≡ framed (map f (entries ++ entry ∷ [])) ++ tail)
    go None is_told = tt
    go (Some bytes) is_told =
        ap (λ b. b ++ frame (f entry)) (is_told ∙ nothing (framed (map f entries)))
        ∙ sym (framed-more f entries entry) ∙ sym (nothing (framed (map f (entries ++ entry ∷ []))))

-- a log that tells its bytes, with a piece behind them
pub piece-behind : (old now : Option (List ℕ)) (piece front : List ℕ) → now ≡ appended old piece → IfSome old (λ bytes. bytes ≡ front)
    → IfSome now (λ bytes. bytes ≡ front ++ piece)
piece-behind old now piece front is told = subst (λ o. IfSome o (λ bytes. bytes ≡ front ++ piece)) (sym is) (go old told)
  where
    go : (o : Option (List ℕ)) → IfSome o (λ bytes. bytes ≡ front) → IfSome (appended o piece) (λ bytes. bytes ≡ front ++ piece)
    go None is_told = tt
    go (Some bytes) is_told = ap (λ b. b ++ piece) is_told

module _ (ps : List (List ℕ)) (tail bytes : List ℕ) (fit : AllByRecursion Fits ps) (torn : IsTorn tail) (is : bytes ≡ framed ps ++ tail) where
  -- the whole frames of the bytes are those of the payloads
  found-there : AreFramesOf bytes (placed 0 ps)
  found-there = subst (λ b. AreFramesOf b (placed 0 ps)) (sym is) (frames_are_found ps tail fit torn)

  -- so the bytes give what these give
  pub folds-payloads : (folded : Folded) → FoldsTo bytes folded → fold (placed 0 ps) ≡ folded
  folds-payloads folded folds = folds-one bytes (fold (placed 0 ps)) folded (placed 0 ps, found-there, refl) folds

  -- and the whole frames of them are these
  pub whole-payloads : (whole : List ℕ) → AreWhole bytes whole → whole ≡ framed ps ++ []
  whole-payloads whole (frames, are, front) =
      let same : payloads_of frames ≡ ps = ap payloads_of (frames_are_one bytes (placed 0 ps) frames found-there are) ∙ payloads-placed 0 ps in
      front ∙ sym are.front ∙ ap framed same ∙ sym (append-nil (framed ps))
