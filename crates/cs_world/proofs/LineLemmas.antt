-- Lemmas on the lines of a transcript: how a line is put together, and one line after another.
use Rattle.std.proofs.Common.{◌≡◌, ℕ, ◌+◌, ◌<◌, List, [], ◌∷◌, ◌++◌, length, get_or, take, map, decimal}
use Rattle.std.proofs.Common.{refl, ap, ◌∙◌, sym, append_assoc, append-nil, arith}
use Rattle.std.specs.List.{join_with_byte}
use Rattle.std.proofs.lemmas.List.{take_more, map-append, length-map, length-take-le}

-- one part more behind a comma
pub joined_more : (xs : List (List ℕ)) (x : List ℕ) → 0 < length xs → join_with_byte 44 (xs ++ x ∷ []) ≡ join_with_byte 44 xs ++ 44 ∷ x
joined_more [] x some = absurd (omega arith)
joined_more (a ∷ []) x some = refl
joined_more (a ∷ b ∷ more) x some =
    let step = joined_more (b ∷ more) x (omega arith) in
    ap (λ (text : List ℕ). a ++ 44 ∷ text) step ∙ sym (append_assoc a (44 ∷ join_with_byte 44 (b ∷ more)) (44 ∷ x))

-- the first part of all
pub first_part : (start was now : List ℕ) (front : List (List ℕ)) (x : List ℕ) → length front ≡ 0
    → was ≡ start ++ join_with_byte 44 front → now ≡ was ++ x → now ≡ start ++ join_with_byte 44 (front ++ x ∷ [])
first_part start was now [] x none before after = rw (after, before, append-nil start) refl
first_part start was now (a ∷ more) x none before after = absurd (omega arith)

-- a part behind others: a comma was written before it
pub next_part : (start was mid now : List ℕ) (front : List (List ℕ)) (x : List ℕ) → 0 < length front
    → was ≡ start ++ join_with_byte 44 front → mid ≡ was ++ 44 ∷ [] → now ≡ mid ++ x → now ≡ start ++ join_with_byte 44 (front ++ x ∷ [])
next_part start was mid now front x some before between after =
    rw (joined_more front x some, after, between, before) (simp append_assoc)

-- the numbers of the first pairs, and of one pair more
pub numbers_more : {A : Type 0} (pairs : List (ℕ × A)) (i : ℕ) (pair : ℕ × A) → i < length pairs → pair ≡ get_or pairs i pair
    → map decimal (map (λ (p : ℕ × A). p.0) (take (i + 1) pairs)) ≡ map decimal (map (λ (p : ℕ × A). p.0) (take i pairs)) ++ decimal pair.0 ∷ []
numbers_more {A} pairs i pair below is =
    ap (λ (front : List (ℕ × A)). map decimal (map (λ (p : ℕ × A). p.0) front)) (take_more pairs i pair below)
    ∙ rw (map-append, map-append, ← is) refl

-- so many numbers as pairs
pub length_numbers : {A : Type 0} (pairs : List (ℕ × A)) (i : ℕ) → i < length pairs
    → length (map decimal (map (λ (p : ℕ × A). p.0) (take i pairs))) ≡ i
length_numbers {A} pairs i below = simp (length-map, length-take-le i pairs (omega arith))
