-- Bytes have one reading as frames with a torn tail.
use Rattle.std.proofs.Common.{◌≡◌, ℕ, ◌+◌, List, [], ◌∷◌, ◌++◌, length, take, drop, refl, sym, ap, ap₂, ◌∙◌, subst, arith, w32}
use Rattle.std.proofs.Common.{add-zero, zero-add, append_assoc, length-append, take_at, drop_at, take-append-drop}
use Rattle.std.proofs.lemmas.Nat.{from_be_bytes-to_be_bytes_4}
use Rattle.std.proofs.lemmas.List.{flat_map_more, map-append}
use Rattle.std.specs.Int.{from_be_bytes}
use Rattle.std.specs.List.{AllByRecursion}
use Rattle.cs_base.proofs.Elements.{All-append}
use Rattle.cs_log.specs.Frames.{frame, framed, Fits, IsTorn, placed, payloads_of, whole_len, AreFramesOf}
use Rattle.cs_log.proofs.Torn.{length-frame, whole_is_not_torn}

-- the payload of the first frame is determined, and what is behind it
first_is_one : (p q x y : List ℕ) → Fits p → Fits q → frame p ++ x ≡ frame q ++ y → (p ≡ q) × (x ≡ y)
first_is_one p q x y p_fits q_fits same =
    let said : List ℕ → ℕ = λ bytes. from_be_bytes w32 (take 4 bytes) in
    let p_len = from_be_bytes-to_be_bytes_4 (length p) p_fits in
    let lens : length p ≡ length q = sym p_len ∙ ap said same ∙ from_be_bytes-to_be_bytes_4 (length q) q_fits in
    let behind : p ++ x ≡ q ++ y = ap (drop 4) same in (
      sym (take_at p x (length q) lens) ∙ ap (take (length q)) behind ∙ take_at q y (length q) refl,
      sym (drop_at p x (length q) lens) ∙ ap (drop (length q)) behind ∙ drop_at q y (length q) refl,
    )

-- all payloads are determined
pub payloads_are_one : (ps qs : List (List ℕ)) (s t : List ℕ) → AllByRecursion Fits ps → AllByRecursion Fits qs
    → IsTorn s → IsTorn t → framed ps ++ s ≡ framed qs ++ t → ps ≡ qs
payloads_are_one [] [] s t p_fit q_fit s_torn t_torn same = refl
payloads_are_one [] (q ∷ qs) s t p_fit q_fit s_torn t_torn same =
    absurd (whole_is_not_torn q (framed qs ++ t) q_fit.0 (subst IsTorn (same ∙ append_assoc (frame q) (framed qs) t) s_torn))
payloads_are_one (p ∷ ps) [] s t p_fit q_fit s_torn t_torn same =
    absurd (whole_is_not_torn p (framed ps ++ s) p_fit.0 (subst IsTorn (sym same ∙ append_assoc (frame p) (framed ps) s) t_torn))
payloads_are_one (p ∷ ps) (q ∷ qs) s t p_fit q_fit s_torn t_torn same =
    let apart = first_is_one p q (framed ps ++ s) (framed qs ++ t) p_fit.0 q_fit.0
    (sym (append_assoc (frame p) (framed ps) s) ∙ same ∙ append_assoc (frame q) (framed qs) t) in
    let others = payloads_are_one ps qs s t p_fit.1 q_fit.1 s_torn t_torn apart.1 in
    ap₂ (λ (r : List ℕ) (rs : List (List ℕ)). r ∷ rs) apart.0 others

-- the payloads that were placed
pub payloads-placed : (at : ℕ) (ps : List (List ℕ)) → payloads_of (placed at ps) ≡ ps
payloads-placed at [] = refl
payloads-placed at (p ∷ ps) = ap (λ (qs : List (List ℕ)). p ∷ qs) (payloads-placed (at + length (frame p)) ps)

-- one more is placed behind the others
pub placed-push : (at : ℕ) (ps : List (List ℕ)) (p : List ℕ) → placed at (ps ++ p ∷ []) ≡ placed at ps ++ (at + length (framed ps), p) ∷ []
placed-push at [] p = ap (λ (place : ℕ). (place, p) ∷ []) (sym (add-zero at))
placed-push at (q ∷ qs) p =
    let next = at + length (frame q) in
    let place : next + length (framed qs) ≡ at + length (framed (q ∷ qs)) = omega (arith, length-append (frame q) (framed qs)) in
    ap (λ (frames : List (ℕ × List ℕ)). (at, q) ∷ frames) (placed-push next qs p ∙ ap (λ (k : ℕ). placed next qs ++ (k, p) ∷ []) place)

-- what was read so far: frames, the place behind them, and the bytes from there on
pub record IsReadTo (bytes : List ℕ) (frames : List (ℕ × List ℕ)) (place : ℕ) (rest : List ℕ) : Type 0 where
  pub fit : AllByRecursion Fits (payloads_of frames)
  pub places : frames ≡ placed 0 (payloads_of frames)
  pub whole : bytes ≡ framed (payloads_of frames) ++ rest
  pub reached : place ≡ whole_len frames

-- at first nothing is read
pub nothing_read : (bytes : List ℕ) → IsReadTo bytes [] 0 bytes
nothing_read bytes = record { fit = tt; places = refl; whole = refl; reached = refl }

-- one more frame is read
pub read_more : (bytes : List ℕ) (frames : List (ℕ × List ℕ)) (at : ℕ) (rest p behind : List ℕ) → IsReadTo bytes frames at rest
    → Fits p → rest ≡ frame p ++ behind → IsReadTo bytes (frames ++ (at, p) ∷ []) (at + (4 + length p)) behind
read_more bytes frames at rest p behind so_far fits begins =
    let ps = payloads_of frames in
    let more : payloads_of (frames ++ (at, p) ∷ []) ≡ ps ++ p ∷ [] = map-append _ frames ((at, p) ∷ []) in
    let longer : framed ps ++ frame p ≡ framed (ps ++ p ∷ []) = flat_map_more frame [] ps p in
    let long : whole_len frames + (4 + length p) ≡ length (framed ps ++ frame p) =
    omega (arith, length-append (framed ps) (frame p), length-frame p) in
    record {
      fit = subst (AllByRecursion Fits) (sym more) (All-append Fits ps (p ∷ []) so_far.fit (fits, tt));
      places = ap (λ (fs : List (ℕ × List ℕ)). fs ++ (at, p) ∷ []) so_far.places
          ∙ ap (λ (place : ℕ). placed 0 ps ++ (place, p) ∷ []) (so_far.reached ∙ sym (zero-add (length (framed ps))))
          ∙ sym (placed-push 0 ps p) ∙ ap (placed 0) (sym more);
      whole = so_far.whole ∙ ap (λ (bytes : List ℕ). framed ps ++ bytes) begins ∙ sym (append_assoc (framed ps) (frame p) behind)
          ∙ ap (λ (bytes : List ℕ). bytes ++ behind) (longer ∙ ap framed (sym more));
      reached = ap (λ (place : ℕ). place + (4 + length p)) so_far.reached ∙ long ∙ ap length (longer ∙ ap framed (sym more));
    }

-- all is read where a torn tail is left
pub all_read : (bytes : List ℕ) (frames : List (ℕ × List ℕ)) (at : ℕ) (rest : List ℕ) → IsReadTo bytes frames at rest
    → IsTorn rest → AreFramesOf bytes frames
all_read bytes frames at rest so_far torn =
    let front = framed (payloads_of frames) in
    let len = whole_len frames in
    record {
      fit = so_far.fit;
      places = so_far.places;
      front = sym (ap (take len) so_far.whole ∙ take_at front rest len refl);
      torn = subst IsTorn (sym (ap (drop len) so_far.whole ∙ drop_at front rest len refl)) torn;
    }

-- the bytes are the frames, with the torn tail behind
bytes-split : (bytes : List ℕ) (frames : List (ℕ × List ℕ)) → AreFramesOf bytes frames → framed (payloads_of frames) ++ drop (whole_len frames) bytes ≡ bytes
bytes-split bytes frames are = ap (λ (front : List ℕ). front ++ drop (whole_len frames) bytes) are.front ∙ take-append-drop (whole_len frames) bytes

-- there is one reading
pub frames_are_one : (bytes : List ℕ) (frames others : List (ℕ × List ℕ)) → AreFramesOf bytes frames → AreFramesOf bytes others → others ≡ frames
frames_are_one bytes frames others here there =
    let same = payloads_are_one (payloads_of others) (payloads_of frames) (drop (whole_len others) bytes) (drop (whole_len frames) bytes)
    there.fit here.fit there.torn here.torn (bytes-split bytes others there ∙ sym (bytes-split bytes frames here)) in
    there.places ∙ ap (placed 0) same ∙ sym here.places

-- frames and a torn tail are read so
pub frames_are_found : (ps : List (List ℕ)) (tail : List ℕ) → AllByRecursion Fits ps → IsTorn tail → AreFramesOf (framed ps ++ tail) (placed 0 ps)
frames_are_found ps tail fit torn =
    let same = sym (payloads-placed 0 ps) in
    all_read (framed ps ++ tail) (placed 0 ps) (length (framed ps)) tail (record {
      fit = subst (AllByRecursion Fits) same fit;
      places = ap (placed 0) same;
      whole = ap (λ (qs : List (List ℕ)). framed qs ++ tail) same;
      reached = ap (λ (qs : List (List ℕ)). length (framed qs)) same;
    }) torn
