-- What a crash leaves of synced frames with a part of one more behind.
use Rattle.std.proofs.Common.{◌≡◌, ℕ, ◌+◌, ◌-◌, ◌⊎◌, inl, inr, List, [], ◌∷◌, ◌++◌, length, take, sym, ap, ◌∙◌, subst, arith}
use Rattle.std.proofs.Common.{append-nil, length-take, take-take, take_all}
use Rattle.std.proofs.lemmas.Bool.{cases_lt}
use Rattle.std.proofs.lemmas.List.{flat_map_more}
use Rattle.std.proofs.Math.Seq.{take-append-add}
use Rattle.std.specs.List.{AllByRecursion}
use Rattle.cs_base.proofs.Elements.{All-append}
use Rattle.cs_log.specs.Crash.{MayBeLeft}
use Rattle.cs_log.specs.Frames.{frame, framed, Fits, placed, AreFramesOf}
use Rattle.cs_log.proofs.Torn.{nothing_is_torn, part_is_torn}
use Rattle.cs_log.proofs.Readings.{frames_are_found}

-- where all is synced, all is left
pub all_is_left : (bytes left : List ℕ) → MayBeLeft (length bytes) bytes left → left ≡ bytes
all_is_left bytes left may = may.front ∙ take_all (length left) bytes may.enough

-- a front of a front is a front
front_of_front : (k n : ℕ) (xs : List ℕ) → (m : ℕ) × (take k (take n xs) ≡ take m xs)
front_of_front k n xs = elim (cases_lt k n) [
  | inl below ↦ (k, take-take k n xs (omega arith))
  | inr least ↦ (n, take_all k (take n xs) (omega (arith, length-take n xs)))
]

-- what is left of synced bytes with a part of a piece behind is the bytes, with a part of the piece behind
pub part_is_left : (bytes piece left : List ℕ) (n : ℕ) → MayBeLeft (length bytes) (bytes ++ take n piece) left
    → (m : ℕ) × (left ≡ bytes ++ take m piece)
part_is_left bytes piece left n may =
    let k = length left - length bytes in
    let long : length left ≡ length bytes + k = omega (arith, may.enough) in
    let part = front_of_front k n piece in (
      part.0,
      may.front ∙ ap (λ (len : ℕ). take len (bytes ++ take n piece)) long ∙ take-append-add bytes (take n piece) k
          ∙ ap (λ (behind : List ℕ). bytes ++ behind) part.1,
    )

-- frames with a part of one more behind have the frames before, or this one too
pub with_a_part : (ps : List (List ℕ)) (p : List ℕ) (m : ℕ) → AllByRecursion Fits ps → Fits p
    → AreFramesOf (framed ps ++ take m (frame p)) (placed 0 ps) ⊎ AreFramesOf (framed ps ++ take m (frame p)) (placed 0 (ps ++ p ∷ []))
with_a_part ps p m fit fits = elim (cases_lt m (length (frame p))) [
  | inl short ↦ inl (frames_are_found ps (take m (frame p)) fit (part_is_torn p m fits short))
  | inr long ↦
      let whole : framed (ps ++ p ∷ []) ++ [] ≡ framed ps ++ take m (frame p) =
      append-nil (framed (ps ++ p ∷ [])) ∙ sym (flat_map_more frame [] ps p)
      ∙ ap (λ (behind : List ℕ). framed ps ++ behind) (sym (take_all m (frame p) long)) in
      inr (subst (λ (bytes : List ℕ). AreFramesOf bytes (placed 0 (ps ++ p ∷ []))) whole
      (frames_are_found (ps ++ p ∷ []) [] (All-append Fits ps (p ∷ []) fit (fits, tt)) nothing_is_torn))
]

-- a crash leaves the frames before, or one more
pub whole_entries_are_left : (ps : List (List ℕ)) (p left : List ℕ) (n : ℕ) → AllByRecursion Fits ps → Fits p
    → MayBeLeft (length (framed ps)) (framed ps ++ take n (frame p)) left
    → AreFramesOf left (placed 0 ps) ⊎ AreFramesOf left (placed 0 (ps ++ p ∷ []))
whole_entries_are_left ps p left n fit fits may =
    let part = part_is_left (framed ps) (frame p) left n may in
    let Are : List ℕ → Type 0 = λ bytes. AreFramesOf bytes (placed 0 ps) ⊎ AreFramesOf bytes (placed 0 (ps ++ p ∷ [])) in
    subst Are (sym part.1) (with_a_part ps p part.0 fit fits)
