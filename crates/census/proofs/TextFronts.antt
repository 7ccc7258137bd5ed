-- The lines of a text and the blocks in lines, where the text or the lines go on behind.
use Rattle.std.proofs.Common.{◌≡◌, ℕ, Bool, true, false, cond, List, [], ◌∷◌, ◌++◌, length}
use Rattle.std.proofs.Common.{codes, refl, ap, sym, subst, ◌∙◌, ◌⊎◌, inl, inr, append_assoc, append-nil, length-append, arith}
use Rattle.std.specs.List.{AllByRecursion, filter_map, onto_first, slice_split}
use Rattle.std.specs.Str.{bytes_eq}
use Rattle.std.proofs.lemmas.List.Elements.{All-from_recursion, filter_map-append}
use Rattle.std.proofs.lemmas.List.Splits.{slice_split_at, slice_split_none}
use Rattle.cs_show.specs.Text.{all_but_last, parts, ended, text_of, Line}
use Rattle.cs_show.specs.Agreement.{Block, block_in, blocks_in}
use Rattle.cs_show.proofs.BlockOfText.{IsLine}
use Rattle.census.proofs.LinesOfText.{is_lf, split_some}

-- without the last of a list behind a list
all_but_last-behind : {X : Type 0} (xs : List X) (y : X) (ys : List X)
    → all_but_last (xs ++ y ∷ ys) ≡ xs ++ all_but_last (y ∷ ys)
all_but_last-behind [] y ys = refl
all_but_last-behind (x ∷ []) y ys = refl
all_but_last-behind (x ∷ z ∷ more) y ys = ap (λ l. x ∷ l) (all_but_last-behind (z ∷ more) y ys)

-- the parts of a list that goes on: all but the last are as they were
abbrev GoesOn : {X : Type 0} → List (List X) → List (List X) → Type 0
GoesOn {X} was now = (part : List X) × (more : List (List X)) × (now ≡ all_but_last was ++ part ∷ more)

-- one element in front of the first part
goes_on-onto : {X : Type 0} (x : X) (was now : List (List X)) (first : List X) (others : List (List X)) → was ≡ first ∷ others
    → GoesOn was now → GoesOn (onto_first x was) (onto_first x now)
goes_on-onto x was now first [] is goes = (x ∷ goes.0, goes.1, rw (goes.2, is) refl)
goes_on-onto x was now first (other ∷ more) is goes = (goes.0, goes.1, rw (goes.2, is) refl)

-- one part more in front
goes_on-more : {X : Type 0} (was now : List (List X)) (first : List X) (others : List (List X)) → was ≡ first ∷ others
    → GoesOn was now → GoesOn ([] ∷ was) ([] ∷ now)
goes_on-more was now first others is goes = (goes.0, goes.1, rw (goes.2, is) refl)

-- more elements behind leave all parts but the last
split-goes_on : {X : Type 0} (p : X → Bool) (xs ys : List X) → GoesOn (slice_split p xs) (slice_split p (xs ++ ys))
split-goes_on p [] ys = split_some p ys
split-goes_on p (x ∷ xs) ys =
    let some = split_some p xs in
    let goes = split-goes_on p xs ys in
    elim (p x) as (λ b. GoesOn (cond b ([] ∷ slice_split p xs) (onto_first x (slice_split p xs)))
    (cond b ([] ∷ slice_split p (xs ++ ys)) (onto_first x (slice_split p (xs ++ ys))))) [
      | true ↦ goes_on-more _ _ some.0 some.1 some.2 goes
      | false ↦ goes_on-onto x _ _ some.0 some.1 some.2 goes
    ]

-- the blocks in lines that go on behind: those of the front, and more
pub blocks_in-front : (xs ys : List Line) → (more : List Block) × (blocks_in (xs ++ ys) ≡ blocks_in xs ++ more)
blocks_in-front xs ys =
    let ends = λ (line : Line). bytes_eq line (codes "end") in
    let goes = split-goes_on ends xs ys in
    let was = all_but_last (slice_split ends xs) in (
      filter_map block_in (all_but_last (goes.0 ∷ goes.1)),
      ap (λ l. filter_map block_in (all_but_last l)) goes.2
          ∙ ap (filter_map block_in) (all_but_last-behind was goes.0 goes.1)
          ∙ filter_map-append block_in was (all_but_last (goes.0 ∷ goes.1)),
    )

-- lines none of which is `end` have no whole block
pub blocks_in-none : (lines : List Line) → AllByRecursion (λ (line : Line). bytes_eq line (codes "end") ≡ false) lines → blocks_in lines ≡ []
blocks_in-none lines no_end =
    let ends = λ (line : Line). bytes_eq line (codes "end") in
    ap (λ l. filter_map block_in (all_but_last l)) (slice_split_none ends lines (All-from_recursion (λ (line : Line). ends line ≡ false) lines no_end))

-- a line and what stands behind its LF are a part and the parts of the rest
parts-ended : (line text : List ℕ) → IsLine line → parts (ended line ++ text) ≡ line ∷ parts text
parts-ended line text is_line =
    ap parts (append_assoc line (10 ∷ []) text)
    ∙ slice_split_at is_lf line 10 text (All-from_recursion (λ b. is_lf b ≡ false) line is_line) refl

-- one list in front of another, both ways: the first ends within the second, or the second within the first
abbrev Within : List ℕ → List ℕ → List ℕ → List ℕ → Type 0
Within front rest line text =
    ((m : List ℕ) × (line ≡ front ++ m) × (rest ≡ m ++ text)) ⊎ ((m : List ℕ) × (front ≡ line ++ m) × (text ≡ m ++ rest))

-- one byte more in front of both
within-more : (b : ℕ) (front rest line text : List ℕ) → Within front rest line text → Within (b ∷ front) rest (b ∷ line) text
within-more b front rest line text (inl w) = inl (w.0, ap (λ l. b ∷ l) w.1, w.2)
within-more b front rest line text (inr w) = inr (w.0, ap (λ l. b ∷ l) w.1, w.2)

-- of two texts that go on to the same one, the first is within the second, or goes beyond it
within : (front rest line text : List ℕ) → front ++ rest ≡ line ++ text → Within front rest line text
within [] rest line text same = inl (line, refl, same)
within (b ∷ front) rest [] text same = inr (b ∷ front, refl, sym same)
within (b ∷ front) rest (c ∷ line) text same =
    let heads : b ≡ c = (let e = same in cc) in
    let tails : front ++ rest ≡ line ++ text = (let e = same in cc) in
    subst (λ d. Within (b ∷ front) rest (d ∷ line) text) heads (within-more b front rest line text (within front rest line text tails))

-- what stands before the last byte of a line and its LF has no LF
no_lf-front : (line front behind : List ℕ) (b : ℕ) → line ++ 10 ∷ [] ≡ front ++ b ∷ behind → IsLine line → IsLine front
no_lf-front line [] behind b same is_line = tt
no_lf-front [] (c ∷ front) behind b same is_line =
    absurd (let e : length {A = ℕ} (10 ∷ []) ≡ length (c ∷ (front ++ b ∷ behind)) = ap length same in omega (arith, e, length-append front (b ∷ behind)))
no_lf-front (a ∷ line) (c ∷ front) behind b same is_line =
    let heads : a ≡ c = (let e = same in cc) in
    let tails : line ++ 10 ∷ [] ≡ front ++ b ∷ behind = (let e = same in cc) in
    (rw (← heads) is_line.0, no_lf-front line front behind b tails is_line.1)

-- a front without an LF has no whole line
no_line : (front : List ℕ) → IsLine front → all_but_last (parts front) ≡ []
no_line front is_line = ap all_but_last (slice_split_none is_lf front (All-from_recursion (λ b. is_lf b ≡ false) front is_line))

-- a whole line, and the whole lines behind it
lines-ended : (line text : List ℕ) → IsLine line → all_but_last (parts (ended line ++ text)) ≡ line ∷ all_but_last (parts text)
lines-ended line text is_line =
    let some = split_some is_lf text in
    ap all_but_last (parts-ended line text is_line ∙ ap (λ l. line ∷ l) some.2) ∙ ap (λ l. line ∷ all_but_last l) (sym some.2)

-- the whole lines of a front of a text are a front of its lines
pub lines-front : (lines : List Line) (front rest : List ℕ) → AllByRecursion IsLine lines → front ++ rest ≡ text_of lines
    → (more : List Line) × (lines ≡ all_but_last (parts front) ++ more)
lines-front [] [] rest are same = ([], refl)
lines-front [] (b ∷ front) rest are same = absurd (let e = same in cc)
lines-front (line ∷ lines) front rest are same = elim (within front rest (ended line) (text_of lines) same) [
  | inl ([], is, behind) ↦
      let more = lines-front lines [] rest are.1 behind in
      let whole : front ≡ ended line ++ [] = sym (append-nil front) ∙ sym is ∙ sym (append-nil (ended line)) in
      (more.0, ap (λ l. line ∷ l) more.1 ∙ ap (λ l. l ++ more.0) (sym (ap (λ t. all_but_last (parts t)) whole ∙ lines-ended line [] are.0)))
  | inl (b ∷ m, is, behind) ↦
      (line ∷ lines, ap (λ l. l ++ (line ∷ lines)) (sym (no_line front (no_lf-front line front m b is are.0))))
  | inr (m, is, behind) ↦
      let more = lines-front lines m rest are.1 (sym behind) in
      (more.0, ap (λ l. line ∷ l) more.1 ∙ ap (λ l. l ++ more.0) (sym (ap (λ t. all_but_last (parts t)) is ∙ lines-ended line m are.0)))
]
