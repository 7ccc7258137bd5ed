-- What the lines of a text say, from the place that a run is at to the whole text.
use Rattle.std.proofs.Common.{◌≡◌, ℕ, zero, suc, ◌+◌, ◌≤◌, false, List, [], ◌∷◌, length, take, ◌||◌, Result, Ok, Err}
use Rattle.std.proofs.Common.{nat_lt, refl, ap, sym, subst, ◌∙◌, is_err, arith}
use Rattle.std.proofs.lemmas.Bool.{le-ltb}
use Rattle.cs_script.specs.Grammar.{event_of}
use Rattle.census.specs.declared.status.Status.{Status}
use Rattle.census.specs.declared.status.Status.TheVariants.{Done, Script, Write}
use Rattle.census.specs.Run.{EndsAsRead, IsEventStop, IsLineStop, LineIsRead, LinesAreRead, counted_from, lines_from}
use Rattle.census.specs.Text.{is_cut, lines_of, most_lines}
use Rattle.census.specs.Transcript.{has_fault}
use Rattle.census.proofs.Courses.{take-counted}

-- no line is outside the grammar where there is none
has_fault-none : (n : ℕ) → has_fault (take n []) ≡ false
has_fault-none zero = refl
has_fault-none (suc n) = refl

-- all lines were read
pub LinesAreRead-end : (number : ℕ) (lines : List (List ℕ)) (done : Unit {0}) → lines ≡ [] → LinesAreRead number lines (Ok done)
LinesAreRead-end number lines done none = rw none (has_fault-none (lines_from number), omega arith)

-- the run ended at an event, of whose line nothing is said
pub LineIsRead-event : (number next : ℕ) (line : List ℕ) (unlinked unlogged : Type 0) (status : Status) → IsEventStop unlinked unlogged status
    → LineIsRead number next line (Err status)
LineIsRead-event number next line unlinked unlogged Script stop = absurd stop
LineIsRead-event number next line unlinked unlogged status stop = tt

-- or the sink failed
pub LineIsRead-failed : (number next : ℕ) (line : List ℕ) (status : Status) → status ≡ Write → LineIsRead number next line (Err status)
LineIsRead-failed number next line status is = subst (λ s. LineIsRead number next line (Err s)) (sym is) tt

module _ (number next : ℕ) (line : List ℕ) (lines : List (List ℕ)) where
  module _ (few : number ≤ most_lines) where
    -- what lines say, by the first and those behind it
    has_fault-first : has_fault (counted_from number (line ∷ lines)) ≡ is_err (event_of line) || has_fault (counted_from (number + 1) lines)
    has_fault-first = ap has_fault (take-counted number line lines few)

    -- so it is behind a line that says an event
    has_fault-event : is_err (event_of line) ≡ false → next ≡ number + 1
        → has_fault (counted_from number (line ∷ lines)) ≡ has_fault (counted_from next lines)
    has_fault-event says is =
        has_fault-first ∙ ap (λ b. b || has_fault (counted_from (number + 1) lines)) says
        ∙ ap (λ n. has_fault (counted_from n lines)) (sym is)

  -- a line says an event, and those behind it are read
  LinesAreRead-next : (done : Unit {0}) → LineIsRead number next line (Ok done)
      → (result : Result (Unit {0}) Status) → LinesAreRead next lines result → LinesAreRead number (line ∷ lines) result
  LinesAreRead-next done (few, is, says) (Ok end) (whole, all) = (has_fault-event few says is ∙ whole, omega (arith, few, is, all))
  LinesAreRead-next done (few, is, says) (Err Script) fault = has_fault-event few says is ∙ fault
  LinesAreRead-next done read (Err status) later = tt

  -- the run ended at a line
  LinesAreRead-stopped : (status : Status) → LineIsRead number next line (Err status) → LinesAreRead number (line ∷ lines) (Err status)
  LinesAreRead-stopped Script (few, fault) = has_fault-first few ∙ ap (λ b. b || has_fault (counted_from (number + 1) lines)) fault
  LinesAreRead-stopped status read = tt

-- the lines of a text, from the place that a run is at
module _ (number next : ℕ) (all rest : List (List ℕ)) (line : List ℕ) (lines : List (List ℕ)) (is : rest ≡ line ∷ lines)
    (so_far : (result : Result (Unit {0}) Status) → LinesAreRead number rest result → LinesAreRead 1 all result) where
  -- its next line was read
  pub LinesAreRead-further : (done : Unit {0}) → LineIsRead number next line (Ok done)
      → (result : Result (Unit {0}) Status) → LinesAreRead next lines result → LinesAreRead 1 all result
  LinesAreRead-further done read result later =
      so_far result (subst (λ left. LinesAreRead number left result) (sym is) (LinesAreRead-next number next line lines done read result later))

  -- the run ended at its next line
  pub LinesAreRead-ended : (status : Status) → LineIsRead number next line (Err status) → LinesAreRead 1 all (Err status)
  LinesAreRead-ended status read =
      so_far (Err status) (subst (λ left. LinesAreRead number left (Err status)) (sym is) (LinesAreRead-stopped number next line lines status read))

-- ---- the text by its lines

module _ (text : List ℕ) where
  -- the run ended at a line of the text
  pub EndsAsRead-stopped : (unwritten unlinked unlogged : Type 0) (status : Status) → IsLineStop unwritten unlinked unlogged status
      → LinesAreRead 1 (lines_of text) (Err status) → EndsAsRead status text
  EndsAsRead-stopped unwritten unlinked unlogged Script stop read = read
  EndsAsRead-stopped unwritten unlinked unlogged Done stop read = absurd stop
  EndsAsRead-stopped unwritten unlinked unlogged status stop read = tt

  -- the run told all lines of a text that isn't cut
  pub EndsAsRead-done : (done : Unit {0}) → is_cut text ≡ false → LinesAreRead 1 (lines_of text) (Ok done) → EndsAsRead Done text
  EndsAsRead-done done whole (none, all) =
      (none, ap (λ cut. cut || nat_lt most_lines (length (lines_of text))) whole ∙ le-ltb most_lines (length (lines_of text)) all)
