-- The lines of a text, taken off from the front.
use Rattle.std.proofs.Common.{◌≡◌, ℕ, ◌+◌, ◌<◌, ◌≤◌, ◌==◌, Bool, true, false, cond, List, [], ◌∷◌, length, take, drop}
use Rattle.std.proofs.Common.{Some, None, refl, ap, arith}
use Rattle.std.specs.List.{onto_first, position, position_or_len, slice_split}
use Rattle.std.proofs.lemmas.Grind.{common_steps}
use Rattle.std.proofs.lemmas.List.Quantifiers.{position-Some}
use Rattle.std.proofs.lemmas.List.Splits.{slice_split_first, slice_split_none}
use Rattle.std.proofs.lemmas.List.Sums.{fails_before_first}
use Rattle.census.specs.Text.{without_empty_last, lines_in}
use Rattle.cs_show.specs.Text.{parts, all_but_last}

-- whether a byte is an LF
abbrev pub is_lf : ℕ → Bool
is_lf b = b == 10

-- a split of a list is some parts
abbrev pub Parts : {X : Type 0} → (X → Bool) → List X → Type 0
Parts {X} p xs = (part : List X) × (more : List (List X)) × (slice_split p xs ≡ part ∷ more)

-- a split has at least one part
pub split_some : {X : Type 0} (p : X → Bool) (xs : List X) → Parts p xs
split_some p [] = ([], [], refl)
split_some p (x ∷ xs) =
    let rest = split_some p xs in
    elim (p x) as (λ b. (part : List _) × (more : List (List _)) × (cond b ([] ∷ slice_split p xs) (onto_first x (slice_split p xs)) ≡ part ∷ more)) [
      | true ↦ ([], slice_split p xs, refl)
      | false ↦ (x ∷ rest.0, rest.1, ap (onto_first x) rest.2)
    ]

-- a part in front of others is a line
kept_part : (cut : Bool) (part first : List ℕ) (more : List (List ℕ))
    → cond cut (all_but_last (part ∷ first ∷ more)) (without_empty_last (part ∷ first ∷ more))
    ≡ part ∷ cond cut (all_but_last (first ∷ more)) (without_empty_last (first ∷ more))
kept_part true part first more = refl
kept_part false [] first more = refl
kept_part false (b ∷ bs) first more = refl

-- the lines, by the parts
lines_by_parts : (cut : Bool) (text part behind : List ℕ) → parts text ≡ part ∷ parts behind
    → lines_in cut text ≡ part ∷ lines_in cut behind
lines_by_parts cut text part behind e =
    let s = split_some is_lf behind in rw (e, s.2) (kept_part cut part s.0 s.1)

-- the first line ends at the first LF
pub lines_in-at : (cut : Bool) (text : List ℕ) (place : ℕ) → position is_lf text ≡ Some place
    → (lines_in cut text ≡ take place text ∷ lines_in cut (drop (place + 1) text)) × (place < length text)
lines_in-at cut text place e =
    let at : position_or_len is_lf text ≡ place = grind (arith, common_steps) in
    let inside : place < length text = (position-Some is_lf text place 0 e).0 in
    let split = slice_split_first is_lf text 0 (omega arith) in
    (lines_by_parts cut text (take place text) (drop (place + 1) text) (rw at at split), inside)

-- the text without an LF is one part
pub parts-none : (text : List ℕ) → position is_lf text ≡ None → parts text ≡ text ∷ []
parts-none text e =
    let far : length text ≤ position_or_len is_lf text = grind (arith, common_steps) in
    slice_split_none is_lf text (λ k d lt. fails_before_first is_lf text k d (omega arith))

-- a text without an LF has no line, where it is cut or empty
pub lines_in-none : (cut : Bool) (text : List ℕ) → position is_lf text ≡ None → (cut ≡ false → text ≡ []) → lines_in cut text ≡ []
lines_in-none true text e empty = rw (parts-none text e) refl
lines_in-none false text e empty = rw (empty refl) refl

-- a text without an LF is one line, where it isn't cut
pub lines_in-whole : (text : List ℕ) → position is_lf text ≡ None → 0 < length text → lines_in false text ≡ text ∷ lines_in false []
lines_in-whole [] e some = absurd (omega arith)
lines_in-whole (b ∷ bs) e some = rw (parts-none (b ∷ bs) e) refl
