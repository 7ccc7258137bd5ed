-- How a run over a source goes on at the next line, and how it ends.
use Rattle.std.proofs.Common.{◌≡◌, ℕ, zero, suc, ◌+◌, ◌-◌, ◌<◌, ◌≤◌, true, false, List, [], ◌∷◌, ◌++◌, length, take, drop}
use Rattle.std.proofs.Common.{Option, Some, None, IfSome, IfErr, OnOk, Result, Ok, Err}
use Rattle.std.proofs.Common.{refl, sym, ap, subst, ◌∙◌, append-nil, append_assoc, inl, inr, ⊎_elim, arith}
use Rattle.std.specs.Prelude.{IsSome}
use Rattle.std.specs.List.{AllByRecursion}
use Rattle.std.proofs.lemmas.List.{drop-drop}
use Rattle.cs_base.specs.Limits.{most_text}
use Rattle.cs_base.proofs.Elements.{All-append, All-front}
use Rattle.cs_link.specs.Maps.{ById}
use Rattle.cs_log.specs.Faults.{HasRisen}
use Rattle.cs_script.specs.Grammar.{event_of}
use Rattle.census.specs.declared.status.Status.{Status}
use Rattle.census.specs.declared.status.Status.TheVariants.{Done, Usage, Script, Read, Write, Link, Log, Memory, Limit}
use Rattle.census.specs.declared.teller.Counts.{Counts}
use Rattle.census.specs.Lines.{AdvanceIs, Reader, first_lf}
use Rattle.census.specs.Restarts.{HasNoRestart, RestartsAreTold, TellsRestarts, brings_back}
use Rattle.census.specs.Run.{EndsAsRead, IsLineStop, IsLinesStop, LineIsRead, LineIsTold, LinesAreRead, LinesAreTold, LinesEndIn, SourceIsTold}
use Rattle.census.specs.Run.{IsTextStop, WritesFront, WritesOfLines, WritesUpTo}
use Rattle.census.specs.Run.{counted_from, course_from, ends_from, lines_from, status_in}
use Rattle.census.specs.Streams.{TakesAtMost}
use Rattle.census.specs.Systems.{System}
use Rattle.census.specs.Transcript.{written_by}
use Rattle.census.specs.Text.{counted_lines, is_cut, lines_in, lines_of, most_lines}
use Rattle.census.proofs.LinesRead.{EndsAsRead-done, EndsAsRead-stopped, LinesAreRead-end}
use Rattle.census.proofs.StreamTold.{AreDone, AreDone-all, AreDone-ended, AreDone-exactly, AreDone-front, AreDone-last, AreDone-next, AreDone-stopped}
use Rattle.census.proofs.TranscriptLines.{lines-clean}
use Rattle.census.proofs.StreamTold.{AreRead, AreRead-ended, AreRead-next}
use Rattle.census.proofs.Streaming.{IsAt, IsAt-gives, IsAt-start, IsAt-waits, cut-there, lines-at-end, lines-at-limit, lines-ended}
use Rattle.census.proofs.Streaming.{lines-still, none-left, still}
use Rattle.census.proofs.Streaming.{not-cut, one-left}

-- ---- where a reader is in what a source has

-- at first
pub at-start : (told : Option (List ℕ)) (reader : Reader) → reader.rest ≡ [] → reader.taken ≡ 0
    → IfSome told (λ text. IsAt text [] reader told)
at-start None reader rest taken = tt
at-start (Some text) reader rest taken = IsAt-start text reader (Some text) rest taken refl

module _ (told now later : Option (List ℕ)) (done : List (List ℕ)) (a b : Reader) (few : b.taken ≤ most_text)
    (at : IfSome told (λ text. IsAt text done a now)) where
  -- behind one more line
  pub at-next : IfSome now (λ left. AdvanceIs a b left later (Ok true)) → IfSome told (λ text. IsAt text (done ++ b.line ∷ []) b later)
  at-next advance = by-text told at
    where
      by-text : (t : Option (List ℕ)) → IfSome t (λ text. IsAt text done a now) → IfSome t (λ text. IsAt text (done ++ b.line ∷ []) b later)
      by-text None is = tt
      by-text (Some text) is =
          IsAt-gives text done a b now later is few (subst (λ n. IfSome n (λ left. AdvanceIs a b left later (Ok true))) is.source advance)

  -- where nothing is left
  pub at-end : IfSome now (λ left. AdvanceIs a b left later (Ok false))
      → IfSome told (λ text. IsAt text done b later × (first_lf b.rest ≡ None) × (later ≡ Some []))
  at-end advance = by-text told at
    where
      by-text : (t : Option (List ℕ)) → IfSome t (λ text. IsAt text done a now)
          → IfSome t (λ text. IsAt text done b later × (first_lf b.rest ≡ None) × (later ≡ Some []))
      by-text None is = tt
      by-text (Some text) is =
          let (waits, none, spent) = subst (λ n. IfSome n (λ left. AdvanceIs a b left later (Ok false))) is.source advance in
          (IsAt-waits text done a b now later is few waits, none, spent)

-- how much was taken
pub at-taken : (told now : Option (List ℕ)) (done : List (List ℕ)) (reader : Reader) → IfSome told (λ text. IsAt text done reader now)
    → TakesAtMost (most_text + 1) told now
at-taken None now done reader at = tt
at-taken (Some text) now done reader at = (reader.taken, omega (arith, at.few), at.source)

-- and behind that
pub at-taken-more : (told now later : Option (List ℕ)) (done : List (List ℕ)) (reader : Reader) → IfSome told (λ text. IsAt text done reader now)
    → TakesAtMost (most_text + 1 - reader.taken) now later → TakesAtMost (most_text + 1) told later
at-taken-more None now later done reader at more = tt
at-taken-more (Some text) now later done reader at more =
    let (n, few, source) = subst (λ m. TakesAtMost (most_text + 1 - reader.taken) m later) at.source more in
    (reader.taken + n, omega (arith, few, at.few), source ∙ ap Some (drop-drop n reader.taken text))

-- ---- who comes back

-- what counts of lines begins with what counts of a front of them
front-counts : (count : ℕ) (xs ys : List (List ℕ)) → (rest : List (List ℕ)) × (take count (xs ++ ys) ≡ take count xs ++ rest)
front-counts zero xs ys = ([], refl)
front-counts (suc count) [] ys = (take (suc count) ys, refl)
front-counts (suc count) (x ∷ xs) ys = let (rest, is) = front-counts count xs ys in (rest, ap (λ more. x ∷ more) is)

-- what is known of lines is known of a front of them
restarts-front : (logs : Option (ById (List ℕ))) (done later : List (List ℕ)) → RestartsAreTold logs (counted_from 1 (done ++ later))
    → RestartsAreTold logs (counted_from 1 done)
restarts-front logs done later (inl told) = inl told
restarts-front logs done later (inr none) =
    let (rest, is) = front-counts (lines_from 1) done later in
    inr (All-front (λ line. brings_back (event_of line) ≡ false) (counted_from 1 done) rest
    (subst HasNoRestart is none))

-- ---- how the run ends

module _ (logs : Option (ById (List ℕ))) (start : System) (before : Option (List ℕ)) where
  -- a line ended the run
  told-stopped : (text : List ℕ) (source now : Option (List ℕ)) (unwritten unlinked unlogged : Type 0) (status : Status)
      → IsLineStop unwritten unlinked unlogged status → LinesAreTold start (lines_of text) before now (Err status)
      → SourceIsTold start text source before now (Err status)
  told-stopped text source now unwritten unlinked unlogged Script stop told = inl told
  told-stopped text source now unwritten unlinked unlogged Limit stop told = inl told
  told-stopped text source now unwritten unlinked unlogged Write stop told = inl told
  told-stopped text source now unwritten unlinked unlogged Link stop told = inl told
  told-stopped text source now unwritten unlinked unlogged Log stop told = inl told
  told-stopped text source now unwritten unlinked unlogged Memory stop told = inl told
  told-stopped text source now unwritten unlinked unlogged status stop told = absurd stop

  -- that line is the next one of a text
  module _ (StandsNow StandsNext : System → Type 0) (counts next : Counts) (now after : Option (List ℕ)) (done : List (List ℕ))
      (line : List ℕ) (so_far : AreDone logs start before StandsNow counts now done) (status : Status)
      (told : (machine : System) → StandsNow machine → RestartsAreTold logs (counted_from counts.number (line ∷ []))
      → LineIsTold StandsNext counts next machine line now after (Err status)) where
    module _ (text : List ℕ) (later : List (List ℕ)) (is : lines_of text ≡ done ++ line ∷ later)
        (restarts : RestartsAreTold logs (counted_from 1 (lines_of text))) where
      pub line-stopped : (source : Option (List ℕ)) (unwritten unlinked unlogged : Type 0) → IsLineStop unwritten unlinked unlogged status
          → SourceIsTold start text source before after (Err status)
      line-stopped source unwritten unlinked unlogged stop =
          told-stopped text source after unwritten unlinked unlogged status stop
          (AreDone-stopped logs start before StandsNow StandsNext counts next now after done line so_far status told (lines_of text) later is restarts)

      pub line-ended : LinesEndIn start StandsNext (lines_of text) (Err status)
      line-ended =
          AreDone-ended logs start before StandsNow StandsNext counts next now after done line so_far status told (lines_of text) later is restarts

  -- the last line of a text, of which nothing is left
  module _ (StandsNow StandsNext : System → Type 0) (counts next : Counts) (now after source : Option (List ℕ)) (done : List (List ℕ))
      (line : List ℕ) (so_far : AreDone logs start before StandsNow counts now done) (counted : next.number ≤ most_lines + 1)
      (text : List ℕ) (is : lines_of text ≡ done ++ line ∷ []) (restarts : RestartsAreTold logs (counted_from 1 (lines_of text))) where
    pub last-told : (unwritten unlinked unlogged : Type 0) (result : Result (Unit {0}) Status)
        → ((machine : System) → StandsNow machine → RestartsAreTold logs (counted_from counts.number (line ∷ []))
        → LineIsTold StandsNext counts next machine line now after result)
        → IfErr result (IsLineStop unwritten unlinked unlogged) → is_cut text ≡ false → source ≡ Some []
        → SourceIsTold start text source before after result
    last-told unwritten unlinked unlogged (Ok ok) told stop whole spent = (
      whole,
      spent,
      AreDone-all logs start before StandsNext next after (done ++ line ∷ [])
          (AreDone-next logs start before StandsNow StandsNext counts next now after done line so_far ok counted told)
          (lines_of text) restarts is ok,
    )
    last-told unwritten unlinked unlogged (Err status) told stop whole spent =
        line-stopped StandsNow StandsNext counts next now after done line so_far status told text [] is restarts source unwritten unlinked
        unlogged stop

    pub last-ended : (result : Result (Unit {0}) Status)
        → ((machine : System) → StandsNow machine → RestartsAreTold logs (counted_from counts.number (line ∷ []))
        → LineIsTold StandsNext counts next machine line now after result) → LinesEndIn start StandsNext (lines_of text) result
    last-ended (Ok ok) told =
        AreDone-last logs start before StandsNext next after (done ++ line ∷ [])
        (AreDone-next logs start before StandsNow StandsNext counts next now after done line so_far ok counted told)
        (lines_of text) restarts is ok
    last-ended (Err status) told = line-ended StandsNow StandsNext counts next now after done line so_far status told text [] is restarts

  -- the source ended the run
  module _ (StandsNow : System → Type 0) (counts : Counts) (now : Option (List ℕ)) (done : List (List ℕ))
      (so_far : AreDone logs start before StandsNow counts now done) (text : List ℕ)
      (restarts : RestartsAreTold logs (counted_from 1 (lines_of text))) (a b : Reader) (left later : Option (List ℕ))
      (at : IsAt text done a left) where
    -- a front of what its lines write was written
    front-told : LinesAreTold start (lines_of text) before now (Err Memory)
    front-told =
        AreDone-front logs start before StandsNow counts now done so_far (lines_of text) restarts (still text done a left at)
        (lines-still text done a left at)

    pub advance-told : b.taken ≤ most_text → (faults_before faults_now : ℕ) (status : Status) → IsLinesStop faults_before faults_now status
        → AdvanceIs a b (drop a.taken text) later (Err status) → SourceIsTold start text later before now (Err status)
    advance-told few faults_before faults_now Read stop (waits, none) =
        let there = IsAt-waits text done a b left later at few waits in
        let alone = restarts-front logs done (still text done a left at)
        (subst (λ ls. RestartsAreTold logs (counted_from 1 ls)) (lines-still text done a left at) restarts) in (
          (
            b.taken,
            there.source,
            AreDone-exactly logs start before StandsNow counts now done so_far (lines_of text) restarts (lines_in true (take b.taken text))
                (lines-ended text done b later there none) alone,
          ),
          front-told,
        )
    advance-told few faults_before faults_now Limit stop (goes_on, none) =
        inr (
          refl,
          cut-there text done a b left at goes_on none,
          AreDone-all logs start before StandsNow counts now done so_far (lines_of text) restarts
              (lines-at-limit text done a b left at goes_on none) tt,
        )
    advance-told few faults_before faults_now Memory stop advance = inl front-told
    advance-told few faults_before faults_now status stop advance = absurd stop

-- ---- what the lines say

module _ (number next : ℕ) (done : List (List ℕ)) (so_far : AreRead number done) (text : List ℕ) where
  module _ (line : List ℕ) (unwritten unlinked unlogged : Type 0) where
    -- the run ended at a line
    pub read-stopped : (later : List (List ℕ)) → lines_of text ≡ done ++ line ∷ later → (status : Status)
        → IsLineStop unwritten unlinked unlogged status → LineIsRead number next line (Err status) → EndsAsRead status text
    read-stopped later is status stop read =
        EndsAsRead-stopped text unwritten unlinked unlogged status stop
        (AreRead-ended number next done line so_far status read (lines_of text) later is)

    -- or told the last one
    pub last-read : lines_of text ≡ done ++ line ∷ [] → is_cut text ≡ false → (result : Result (Unit {0}) Status)
        → IfErr result (IsLineStop unwritten unlinked unlogged) → LineIsRead number next line result → EndsAsRead (status_in result) text
    last-read is whole (Ok ok) stop read =
        EndsAsRead-done text ok whole
        (subst (λ ls. LinesAreRead 1 ls (Ok ok)) (append-nil (done ++ line ∷ []) ∙ sym is)
        (AreRead-next number next done line so_far ok read [] (Ok ok) (LinesAreRead-end next [] ok refl)))
    last-read is whole (Err status) stop read = read-stopped [] is status stop read

  -- all were read
  pub all-read : is_cut text ≡ false → lines_of text ≡ done → EndsAsRead Done text
  all-read whole is =
      EndsAsRead-done text tt whole
      (subst (λ ls. LinesAreRead 1 ls (Ok tt)) (append-nil done ∙ sym is) (so_far [] (Ok tt) (LinesAreRead-end number [] tt refl)))

-- ---- the same of a source that may not tell what it has

-- the lines of a text in which a line comes next
pub next-line : (all done : List (List ℕ)) (line : List ℕ) (later : List (List ℕ)) → all ≡ (done ++ line ∷ []) ++ later → all ≡ done ++ line ∷ later
next-line all done line later is = is ∙ append_assoc done (line ∷ []) later

-- a reader is at the end of a text
abbrev pub IsAtEnd : List ℕ → List (List ℕ) → Reader → Option (List ℕ) → Type 0
IsAtEnd text done reader later = IsAt text done reader later × (first_lf reader.rest ≡ None) × (later ≡ Some [])

-- the lines of a text whose end has no LF
pub lines-unended : (text : List ℕ) (done : List (List ℕ)) (reader : Reader) (later : Option (List ℕ)) → IsAt text done reader later
    → first_lf reader.rest ≡ None → later ≡ Some [] → (line : List ℕ) → line ≡ reader.rest → 0 < length line → lines_of text ≡ done ++ line ∷ []
lines-unended text done reader later at none spent line is some =
    lines-at-end text done reader later at none spent ∙ ap (λ rest. done ++ lines_in false rest) (sym is)
    ∙ ap (λ ls. done ++ ls) (one-left line (ap first_lf is ∙ none) some)

-- and of one that ends by an LF
lines-all-ended : (text : List ℕ) (done : List (List ℕ)) (reader : Reader) (later : Option (List ℕ)) → IsAt text done reader later
    → first_lf reader.rest ≡ None → later ≡ Some [] → reader.rest ≡ [] → lines_of text ≡ done
lines-all-ended text done reader later at none spent empty =
    lines-at-end text done reader later at none spent ∙ ap (λ ls. done ++ ls) (none-left reader.rest empty) ∙ append-nil done

module _ (logs : Option (ById (List ℕ))) (start : System) (before told now later : Option (List ℕ)) (StandsNow : System → Type 0)
    (counts : Counts) (written : Option (List ℕ)) (done : List (List ℕ)) (so_far : AreDone logs start before StandsNow counts written done)
    (reader : Reader) where
  -- the source ended the run
  pub advance-told-if : (a : Reader) (status : Status) (faults_before faults_now : ℕ) → reader.taken ≤ most_text
      → IsLinesStop faults_before faults_now status → IfSome told (λ text. IsAt text done a now)
      → IfSome now (λ left. AdvanceIs a reader left later (Err status))
      → IfSome told (λ text. RestartsAreTold logs (counted_lines text) → SourceIsTold start text later before written (Err status))
  advance-told-if a status faults_before faults_now few stop at advance = by-text told at
    where
      by-text : (t : Option (List ℕ)) → IfSome t (λ text. IsAt text done a now)
          → IfSome t (λ text. RestartsAreTold logs (counted_lines text) → SourceIsTold start text later before written (Err status))
      by-text None is = tt
      by-text (Some text) is = λ restarts.
          advance-told logs start before StandsNow counts written done so_far text restarts a reader now later is few faults_before faults_now status
          stop (subst (λ n. IfSome n (λ left. AdvanceIs a reader left later (Err status))) is.source advance)

  -- all lines ended by an LF
  module _ (empty : reader.rest ≡ []) where
    pub end-told-if : (ok : Unit {0}) → IfSome told (λ text. IsAtEnd text done reader later)
        → IfSome told (λ text. RestartsAreTold logs (counted_lines text) → SourceIsTold start text later before written (Ok ok))
    end-told-if ok at = by-text told at
      where
        by-text : (t : Option (List ℕ)) → IfSome t (λ text. IsAtEnd text done reader later)
            → IfSome t (λ text. RestartsAreTold logs (counted_lines text) → SourceIsTold start text later before written (Ok ok))
        by-text None is = tt
        by-text (Some text) (there, none, spent) = λ restarts. (
          not-cut text done reader later there none spent,
          spent,
          AreDone-all logs start before StandsNow counts written done so_far (lines_of text) restarts
              (lines-all-ended text done reader later there none spent empty) ok,
        )

    pub end-last-if : (ok : Unit {0}) → IfSome told (λ text. IsAtEnd text done reader later)
        → IfSome told (λ text. RestartsAreTold logs (counted_lines text) → LinesEndIn start StandsNow (lines_of text) (Ok ok))
    end-last-if ok at = by-text told at
      where
        by-text : (t : Option (List ℕ)) → IfSome t (λ text. IsAtEnd text done reader later)
            → IfSome t (λ text. RestartsAreTold logs (counted_lines text) → LinesEndIn start StandsNow (lines_of text) (Ok ok))
        by-text None is = tt
        by-text (Some text) (there, none, spent) = λ restarts.
            AreDone-last logs start before StandsNow counts written done so_far (lines_of text) restarts
            (lines-all-ended text done reader later there none spent empty) ok

  -- a further line came
  module _ (StandsNext : System → Type 0) (next : Counts) (after : Option (List ℕ)) (line : List ℕ) where
    -- and ended the run
    module _ (status : Status) (tells : (machine : System) → StandsNow machine → RestartsAreTold logs (counted_from counts.number (line ∷ []))
        → LineIsTold StandsNext counts next machine line written after (Err status))
        (at : IfSome told (λ text. IsAt text (done ++ line ∷ []) reader later)) where
      pub line-told-if : (unwritten unlinked unlogged : Type 0) → IsLineStop unwritten unlinked unlogged status
          → IfSome told (λ text. RestartsAreTold logs (counted_lines text) → SourceIsTold start text later before after (Err status))
      line-told-if unwritten unlinked unlogged stop = by-text told at
        where
          by-text : (t : Option (List ℕ)) → IfSome t (λ text. IsAt text (done ++ line ∷ []) reader later)
              → IfSome t (λ text. RestartsAreTold logs (counted_lines text) → SourceIsTold start text later before after (Err status))
          by-text None is = tt
          by-text (Some text) is = λ restarts.
              line-stopped logs start before StandsNow StandsNext counts next written after done line so_far status tells text
              (still text (done ++ line ∷ []) reader later is)
              (next-line (lines_of text) done line _ (lines-still text (done ++ line ∷ []) reader later is)) restarts later unwritten unlinked
              unlogged stop

      pub line-last-if : IfSome told (λ text. RestartsAreTold logs (counted_lines text) → LinesEndIn start StandsNext (lines_of text) (Err status))
      line-last-if = by-text told at
        where
          by-text : (t : Option (List ℕ)) → IfSome t (λ text. IsAt text (done ++ line ∷ []) reader later)
              → IfSome t (λ text. RestartsAreTold logs (counted_lines text) → LinesEndIn start StandsNext (lines_of text) (Err status))
          by-text None is = tt
          by-text (Some text) is = λ restarts.
              line-ended logs start before StandsNow StandsNext counts next written after done line so_far status tells text
              (still text (done ++ line ∷ []) reader later is)
              (next-line (lines_of text) done line _ (lines-still text (done ++ line ∷ []) reader later is)) restarts

    -- it is the last one, and has no LF
    module _ (counted : next.number ≤ most_lines + 1) (result : Result (Unit {0}) Status)
        (tells : (machine : System) → StandsNow machine → RestartsAreTold logs (counted_from counts.number (line ∷ []))
        → LineIsTold StandsNext counts next machine line written after result)
        (at : IfSome told (λ text. IsAtEnd text done reader later)) (same : line ≡ reader.rest) (some : 0 < length line) where
      pub unended-told-if : (unwritten unlinked unlogged : Type 0) → IfErr result (IsLineStop unwritten unlinked unlogged)
          → IfSome told (λ text. RestartsAreTold logs (counted_lines text) → SourceIsTold start text later before after result)
      unended-told-if unwritten unlinked unlogged stop = by-text told at
        where
          by-text : (t : Option (List ℕ)) → IfSome t (λ text. IsAtEnd text done reader later)
              → IfSome t (λ text. RestartsAreTold logs (counted_lines text) → SourceIsTold start text later before after result)
          by-text None is = tt
          by-text (Some text) (there, none, spent) = λ restarts.
              last-told logs start before StandsNow StandsNext counts next written after later done line so_far counted text
              (lines-unended text done reader later there none spent line same some) restarts unwritten unlinked unlogged result tells stop
              (not-cut text done reader later there none spent) spent

      pub unended-last-if : IfSome told (λ text. RestartsAreTold logs (counted_lines text) → LinesEndIn start StandsNext (lines_of text) result)
      unended-last-if = by-text told at
        where
          by-text : (t : Option (List ℕ)) → IfSome t (λ text. IsAtEnd text done reader later)
              → IfSome t (λ text. RestartsAreTold logs (counted_lines text) → LinesEndIn start StandsNext (lines_of text) result)
          by-text None is = tt
          by-text (Some text) (there, none, spent) = λ restarts.
              last-ended logs start before StandsNow StandsNext counts next written after later done line so_far counted text
              (lines-unended text done reader later there none spent line same some) restarts result tells

module _ (number next : ℕ) (done : List (List ℕ)) (so_far : AreRead number done) (told later : Option (List ℕ)) (reader : Reader)
    (at : IfSome told (λ text. IsAtEnd text done reader later)) where
  pub end-read-if : reader.rest ≡ [] → IfSome told (EndsAsRead Done)
  end-read-if empty = by-text told at
    where
      by-text : (t : Option (List ℕ)) → IfSome t (λ text. IsAtEnd text done reader later) → IfSome t (EndsAsRead Done)
      by-text None is = tt
      by-text (Some text) (there, none, spent) =
          all-read number next done so_far text (not-cut text done reader later there none spent)
          (lines-all-ended text done reader later there none spent empty)

  pub unended-read-if : (line : List ℕ) → line ≡ reader.rest → 0 < length line → (result : Result (Unit {0}) Status)
      (unwritten unlinked unlogged : Type 0) → IfErr result (IsLineStop unwritten unlinked unlogged) → LineIsRead number next line result
      → IfSome told (EndsAsRead (status_in result))
  unended-read-if line same some result unwritten unlinked unlogged stop read = by-text told at
    where
      by-text : (t : Option (List ℕ)) → IfSome t (λ text. IsAtEnd text done reader later) → IfSome t (EndsAsRead (status_in result))
      by-text None is = tt
      by-text (Some text) (there, none, spent) =
          last-read number next done so_far text line unwritten unlinked unlogged
          (lines-unended text done reader later there none spent line same some) (not-cut text done reader later there none spent) result stop read

-- the run ended at a line
pub line-read-if : (number next : ℕ) (done : List (List ℕ)) → AreRead number done → (told later : Option (List ℕ)) (reader : Reader) (line : List ℕ)
    → IfSome told (λ text. IsAt text (done ++ line ∷ []) reader later) → (status : Status) (unwritten unlinked unlogged : Type 0)
    → IsLineStop unwritten unlinked unlogged status → LineIsRead number next line (Err status) → IfSome told (EndsAsRead status)
line-read-if number next done so_far None later reader line at status unwritten unlinked unlogged stop read = tt
line-read-if number next done so_far (Some text) later reader line at status unwritten unlinked unlogged stop read =
    read-stopped number next done so_far text line unwritten unlinked unlogged (still text (done ++ line ∷ []) reader later at)
    (next-line (lines_of text) done line _ (lines-still text (done ++ line ∷ []) reader later at)) status stop read

-- ---- what was written, whatever the source tells

-- what a run writes up to where it ended is a front of all
pub up-to-front : (status end : Status) (text : List ℕ) (before after : Option (List ℕ)) → ¬ (status ≡ Usage) → WritesUpTo status end text before after
    → WritesFront text before after
up-to-front Done end text before after used told = (text, [], sym (append-nil text), told.1)
up-to-front Script end text before after used told = (text, [], sym (append-nil text), told.1)
up-to-front Limit end text before after used told = (text, [], sym (append-nil text), told.1)
up-to-front Usage end text before after used told = absurd (used refl)
up-to-front status end text before after used told = told

-- a line never ends a run as wrong words do
not-usage : (unwritten unlinked unlogged : Type 0) (status : Status) → IsLineStop unwritten unlinked unlogged status → ¬ (status ≡ Usage)
not-usage unwritten unlinked unlogged status stop is = subst (IsLineStop unwritten unlinked unlogged) is stop

module _ (logs : Option (ById (List ℕ))) (start : System) (before : Option (List ℕ)) (told : IsSome logs) where
  -- lines that were told
  pub done-wrote : (StandsNow : System → Type 0) (counts : Counts) (now : Option (List ℕ)) (done : List (List ℕ))
      → AllByRecursion (λ line. first_lf line ≡ None) done → AreDone logs start before StandsNow counts now done → WritesOfLines start before now
  done-wrote StandsNow counts now done clean so_far =
      (done, clean, AreDone-front logs start before StandsNow counts now done so_far done (inl told) [] (sym (append-nil done)))

  module _ (StandsNow StandsNext : System → Type 0) (counts next : Counts) (now after : Option (List ℕ)) (done : List (List ℕ)) (line : List ℕ)
      (clean : AllByRecursion (λ l. first_lf l ≡ None) done) (none : first_lf line ≡ None)
      (so_far : AreDone logs start before StandsNow counts now done) where
    -- and one that ended the run
    pub stopped-wrote : (unwritten unlinked unlogged : Type 0) (status : Status) → IsLineStop unwritten unlinked unlogged status
        → ((machine : System) → StandsNow machine → RestartsAreTold logs (counted_from counts.number (line ∷ []))
        → LineIsTold StandsNext counts next machine line now after (Err status)) → WritesOfLines start before after
    stopped-wrote unwritten unlinked unlogged status stop tells = (
      done ++ line ∷ [],
      All-append (λ l. first_lf l ≡ None) done (line ∷ []) clean (none, tt),
      up-to-front status _ _ before after (not-usage unwritten unlinked unlogged status stop)
          (AreDone-stopped logs start before StandsNow StandsNext counts next now after done line so_far status tells (done ++ line ∷ []) [] refl
          (inl told)),
    )

    -- or the last one
    pub last-wrote : (unwritten unlinked unlogged : Type 0) (result : Result (Unit {0}) Status)
        → IfErr result (IsLineStop unwritten unlinked unlogged) → next.number ≤ most_lines + 1
        → ((machine : System) → StandsNow machine → RestartsAreTold logs (counted_from counts.number (line ∷ []))
        → LineIsTold StandsNext counts next machine line now after result) → WritesOfLines start before after
    last-wrote unwritten unlinked unlogged (Ok ok) stop counted tells =
        done-wrote StandsNext next after (done ++ line ∷ []) (All-append (λ l. first_lf l ≡ None) done (line ∷ []) clean (none, tt))
        (AreDone-next logs start before StandsNow StandsNext counts next now after done line so_far ok counted tells)
    last-wrote unwritten unlinked unlogged (Err status) stop counted tells = stopped-wrote unwritten unlinked unlogged status stop tells

-- what was told of a source that tells what it has was written of its lines
source-wrote : (start : System) (text : List ℕ) (source before after : Option (List ℕ)) (unread unwritten unlinked unlogged : Type 0)
    (result : Result (Unit {0}) Status) → IfErr result (IsTextStop unread unwritten unlinked unlogged)
    → SourceIsTold start text source before after result → WritesFront (written_by start (course_from 1 0 start (lines_of text))) before after
source-wrote start text source before after unread unwritten unlinked unlogged (Ok ok) stop told =
    up-to-front Done (ends_from 1 0 start (lines_of text)) (written_by start (course_from 1 0 start (lines_of text))) before after
    (λ is. absurd (cc)) told.2
source-wrote start text source before after unread unwritten unlinked unlogged (Err Read) stop told = told.1
source-wrote start text source before after unread unwritten unlinked unlogged (Err status) stop told =
    let ends = ends_from 1 0 start (lines_of text) in
    let all = written_by start (course_from 1 0 start (lines_of text)) in
    ⊎_elim (λ t. up-to-front status ends all before after (not-usage unwritten unlinked unlogged status stop) t)
    (λ t. up-to-front Done ends all before after (λ is. absurd (cc)) t.2) told

-- where the lines ended, the run ended
pub lines-stop : (faults_before faults_now : ℕ) (unwritten unlinked unlogged : Type 0) (status : Status) → IsLinesStop faults_before faults_now status
    → IsTextStop (HasRisen faults_before faults_now) unwritten unlinked unlogged status
lines-stop faults_before faults_now unwritten unlinked unlogged Read stop = stop
lines-stop faults_before faults_now unwritten unlinked unlogged Limit stop = tt
lines-stop faults_before faults_now unwritten unlinked unlogged Memory stop = tt
lines-stop faults_before faults_now unwritten unlinked unlogged status stop = absurd stop

-- or at one of them
pub line-stop : (unread unwritten unlinked unlogged : Type 0) (status : Status) → IsLineStop unwritten unlinked unlogged status
    → IsTextStop unread unwritten unlinked unlogged status
line-stop unread unwritten unlinked unlogged Read stop = absurd stop
line-stop unread unwritten unlinked unlogged status stop = stop

-- by what is known of those who come back
pub wrote-if : (logs : Option (ById (List ℕ))) (start : System) (left source before after : Option (List ℕ))
    (unread unwritten unlinked unlogged : Type 0) (result : Result (Unit {0}) Status) → TellsRestarts logs left
    → IfErr result (IsTextStop unread unwritten unlinked unlogged) → (IsSome logs → WritesOfLines start before after)
    → IfSome left (λ text. RestartsAreTold logs (counted_lines text) → SourceIsTold start text source before after result)
    → WritesOfLines start before after
wrote-if logs start left source before after unread unwritten unlinked unlogged result (inl told) stop wrote tells = wrote told
wrote-if logs start None source before after unread unwritten unlinked unlogged result (inr none) stop wrote tells = absurd none
wrote-if logs start (Some text) source before after unread unwritten unlinked unlogged result (inr none) stop wrote tells = (
  lines_of text,
  lines-clean (is_cut text) (take most_text text),
  source-wrote start text source before after unread unwritten unlinked unlogged result stop (tells (inr none)),
)

pub line-stop-if : (unread unwritten unlinked unlogged : Type 0) (result : Result (Unit {0}) Status)
    → IfErr result (IsLineStop unwritten unlinked unlogged) → IfErr result (IsTextStop unread unwritten unlinked unlogged)
line-stop-if unread unwritten unlinked unlogged (Ok ok) stop = tt
line-stop-if unread unwritten unlinked unlogged (Err status) stop = line-stop unread unwritten unlinked unlogged status stop

-- at the end of a text nothing is left
pub spent-if : (told later : Option (List ℕ)) (done : List (List ℕ)) (reader : Reader) → IfSome told (λ text. IsAtEnd text done reader later)
    → IfSome told (λ text. later ≡ Some [])
spent-if None later done reader at = tt
spent-if (Some text) later done reader at = at.2

-- what holds anyhow holds where nothing stands behind a result
pub on-any : {P : Type 0} (result : Result (Unit {0}) Status) → P → OnOk result P
on-any (Ok ok) holds = holds
on-any (Err status) holds = tt
