-- How near a reader stays to the line at which a run ends.
use Rattle.std.proofs.Common.{◌≡◌, ℕ, ◌+◌, ◌<◌, ◌≤◌, Bool, true, List, [], ◌∷◌, ◌++◌, length, take, drop}
use Rattle.std.proofs.Common.{Option, Some, None, IfSome, Result, Ok, Err, refl, sym, ap, subst, ◌∙◌, append-nil, append_assoc, arith}
use Rattle.std.proofs.lemmas.List.{length-append, length-take}
use Rattle.std.proofs.Math.Seq.{take-append_seam}
use Rattle.cs_link.specs.Maps.{ById}
use Rattle.cs_show.specs.Text.{text_of}
use Rattle.census.specs.declared.status.Status.{Status}
use Rattle.census.specs.declared.status.Status.TheVariants.{Done, Script, Limit}
use Rattle.census.specs.declared.teller.Counts.{Counts}
use Rattle.census.specs.Lines.{AdvanceIs, Reader, most_piece}
use Rattle.census.specs.Restarts.{RestartsAreTold}
use Rattle.census.specs.Run.{EndsNear, IsAtLine, IsLinesStop, IsNear, LineIsTold, counted_from, course_from, ends_from, lines_from}
use Rattle.census.specs.Run.{status_in, told_length}
use Rattle.census.specs.Systems.{System}
use Rattle.census.specs.Text.{counted_lines, lines_of}
use Rattle.census.specs.Transcript.{Said}
use Rattle.census.proofs.Courses.{course-none, none-told}
use Rattle.census.proofs.Restarts.{RestartsAreTold-alone}
use Rattle.census.proofs.StreamEnds.{IsAtEnd, lines-unended, next-line}
use Rattle.census.proofs.StreamTold.{AreDone}
use Rattle.census.proofs.Streaming.{IsAt, lines-at-limit, lines-still, still, text_of-more}
use Rattle.census.proofs.ToldLines.{AreToldTo}

module _ (logs : Option (ById (List ℕ))) (start : System) (before : Option (List ℕ)) (StandsNow : System → Type 0) (counts : Counts)
    (now : Option (List ℕ)) (done : List (List ℕ)) (so_far : AreDone logs start before StandsNow counts now done) where
  -- where all lines are those that were told, the run ends at none
  pub none-ends : (all : List (List ℕ)) → all ≡ done → RestartsAreTold logs (counted_from 1 all) → IsAtLine (course_from 1 0 start all).end → ⊥
  none-ends all is restarts at_line =
      let same = is ∙ sym (append-nil done) in
      let here = so_far [] (subst (λ ls. RestartsAreTold logs (counted_from 1 ls)) same restarts) in
      subst IsAtLine (ap (λ ls. (course_from 1 0 start ls).end) same ∙ here.end
      ∙ ap (λ c. c.end) (course-none (lines_from counts.number) counts.number counts.written here.machine)) at_line

  -- a line ended the run
  module _ (StandsNext : System → Type 0) (next : Counts) (after : Option (List ℕ)) (line : List ℕ) (numbered : counts.number ≡ length done + 1)
      (status : Status) (told : (machine : System) → StandsNow machine → RestartsAreTold logs (counted_from counts.number (line ∷ []))
      → LineIsTold StandsNext counts next machine line now after (Err status))
      (text : List ℕ) (later : List (List ℕ)) (is : lines_of text ≡ done ++ line ∷ later)
      (restarts : RestartsAreTold logs (counted_from 1 (lines_of text))) where
    here : AreToldTo logs StandsNow start (done ++ line ∷ later) before now counts (line ∷ later)
    here = so_far (line ∷ later) (subst (λ ls. RestartsAreTold logs (counted_from 1 ls)) is restarts)

    -- and is told as the last one
    ended : LineIsTold StandsNext counts next here.machine line now after (Err status)
    ended = told here.machine here.stands (RestartsAreTold-alone logs counts.number line later here.restarts)

    module _ (undone : ¬ (status ≡ Done)) (ends : status ≡ ends_from counts.number counts.written here.machine (line ∷ []))
        (at_line : IsAtLine (course_from 1 0 start (lines_of text)).end) where
      -- the lines before it are those that were told
      said-done : length (course_from 1 0 start (lines_of text)).said ≡ length done
      said-done =
          let end = ap (λ ls. (course_from 1 0 start ls).end) is ∙ here.end in
          let none = none-told counts.number counts.written here.machine line later status undone ends (subst IsAtLine end at_line) in
          let len = ap (λ ls. length (course_from 1 0 start ls).said) is in
          omega (arith, len, here.said, ap (length {A = Said}) none, numbered)

      -- so that many bytes are those of the lines up to it
      told-up-to : told_length start text ≡ length (text_of (done ++ line ∷ []))
      told-up-to =
          let count : length done + 1 ≡ length (done ++ line ∷ []) = sym (length-append done (line ∷ [])) in
          let front : take (length done + 1) (done ++ line ∷ later) ≡ done ++ line ∷ [] =
          ap (λ ls. take (length done + 1) ls) (sym (append_assoc done (line ∷ []) later))
          ∙ ap (λ n. take n ((done ++ line ∷ []) ++ later)) count ∙ take-append_seam (done ++ line ∷ []) later in
          ap (λ n. length (text_of (take (n + 1) (lines_of text)))) said-done
          ∙ ap (λ ls. length (text_of (take (length done + 1) ls))) is ∙ ap (λ ls. length (text_of ls)) front

    module _ (source : Option (List ℕ)) (taken : ℕ) (read : source ≡ Some (drop taken text))
        (near : taken ≤ length (text_of (done ++ line ∷ [])) + most_piece) where
      at-line : ¬ (status ≡ Done) → status ≡ ends_from counts.number counts.written here.machine (line ∷ []) → IsNear start text source
      at-line undone ends = λ at_line. (taken, omega (arith, near, told-up-to undone ends at_line), read)

      pub line-near : (s : Status) → status ≡ s → EndsNear start text source s
      line-near Script same =
          let there = subst (λ s. LineIsTold StandsNext counts next here.machine line now after (Err s)) same ended in
          at-line (λ done. absurd (cc)) (same ∙ (there []).0.0)
      line-near Limit same =
          let there = subst (λ s. LineIsTold StandsNext counts next here.machine line now after (Err s)) same ended in
          at-line (λ done. absurd (cc)) (same ∙ (there []).0.0)
      line-near s same = tt

-- ---- how much was read

-- the bytes that were read are those of the lines and what is left
taken-length : (text : List ℕ) (done : List (List ℕ)) (reader : Reader) (now : Option (List ℕ)) → IsAt text done reader now
    → reader.taken ≡ length (text_of done) + length reader.rest
taken-length text done reader now at =
    let len : length (take reader.taken text) ≡ reader.taken = simp length-take (omega (arith, at.within)) in
    omega (arith, len, ap (length {A = ℕ}) at.bytes, length-append (text_of done) reader.rest)

-- at first nothing is left
pub short-start : (told : Option (List ℕ)) (rest : List ℕ) → rest ≡ [] → IfSome told (λ text. length rest ≤ most_piece)
short-start None rest empty = tt
short-start (Some text) rest empty = omega (arith, ap (length {A = ℕ}) empty)

-- behind a line at most a piece is
pub short-next : (told now : Option (List ℕ)) (done : List (List ℕ)) (a b : Reader) → IfSome told (λ text. IsAt text done a now)
    → IfSome told (λ text. length a.rest ≤ most_piece)
    → (more : Bool) → more ≡ true → (length a.rest ≤ most_piece → IfSome now (λ left. more ≡ true → length b.rest ≤ most_piece))
    → IfSome told (λ text. length b.rest ≤ most_piece)
short-next None now done a b at short more is near = tt
short-next (Some text) now done a b at short more is near =
    subst (λ m. IfSome m (λ left. more ≡ true → length b.rest ≤ most_piece)) at.source (near short) is

module _ (logs : Option (ById (List ℕ))) (start : System) (before told later : Option (List ℕ)) (StandsNow : System → Type 0)
    (counts : Counts) (written : Option (List ℕ)) (done : List (List ℕ)) (so_far : AreDone logs start before StandsNow counts written done)
    (reader : Reader) where
  -- a line ended the run
  module _ (StandsNext : System → Type 0) (next : Counts) (after : Option (List ℕ)) (line : List ℕ) (numbered : counts.number ≡ length done + 1) where
    pub line-near-if : (status : Status)
        → ((machine : System) → StandsNow machine → RestartsAreTold logs (counted_from counts.number (line ∷ []))
        → LineIsTold StandsNext counts next machine line written after (Err status))
        → IfSome told (λ text. IsAt text (done ++ line ∷ []) reader later) → IfSome told (λ text. length reader.rest ≤ most_piece)
        → IfSome told (λ text. RestartsAreTold logs (counted_lines text) → EndsNear start text later status)
    line-near-if status tells at short = by-text told at short
      where
        by-text : (t : Option (List ℕ)) → IfSome t (λ text. IsAt text (done ++ line ∷ []) reader later)
            → IfSome t (λ text. length reader.rest ≤ most_piece)
            → IfSome t (λ text. RestartsAreTold logs (counted_lines text) → EndsNear start text later status)
        by-text None is few = tt
        by-text (Some text) is few = λ restarts.
            line-near logs start before StandsNow counts written done so_far StandsNext next after line numbered status tells text
            (still text (done ++ line ∷ []) reader later is)
            (next-line (lines_of text) done line _ (lines-still text (done ++ line ∷ []) reader later is)) restarts later reader.taken is.source
            (omega (arith, few, taken-length text (done ++ line ∷ []) reader later is)) status refl

    -- and it was the last one
    pub unended-near-if : (result : Result (Unit {0}) Status)
        → ((machine : System) → StandsNow machine → RestartsAreTold logs (counted_from counts.number (line ∷ []))
        → LineIsTold StandsNext counts next machine line written after result)
        → IfSome told (λ text. IsAtEnd text done reader later) → line ≡ reader.rest → 0 < length line
        → IfSome told (λ text. RestartsAreTold logs (counted_lines text) → EndsNear start text later (status_in result))
    unended-near-if result tells at same some = by-text told at
      where
        by-result : (text : List ℕ) → IsAtEnd text done reader later → RestartsAreTold logs (counted_lines text)
            → (r : Result (Unit {0}) Status)
            → ((machine : System) → StandsNow machine → RestartsAreTold logs (counted_from counts.number (line ∷ []))
            → LineIsTold StandsNext counts next machine line written after r) → EndsNear start text later (status_in r)
        by-result text end restarts (Ok ok) told_so = tt
        by-result text (there, none, spent) restarts (Err status) told_so =
            let more = ap (length {A = ℕ}) (text_of-more done line []) in
            let all = length-append (text_of (done ++ line ∷ [])) [] in
            let parts = length-append (text_of done) (line ++ 10 ∷ []) in
            line-near logs start before StandsNow counts written done so_far StandsNext next after line numbered status told_so text []
            (lines-unended text done reader later there none spent line same some) restarts later reader.taken there.source
            (omega (arith, taken-length text done reader later there, ap (length {A = ℕ}) same, more, all, parts, length-append line (10 ∷ [])))
            status refl

        by-text : (t : Option (List ℕ)) → IfSome t (λ text. IsAtEnd text done reader later)
            → IfSome t (λ text. RestartsAreTold logs (counted_lines text) → EndsNear start text later (status_in result))
        by-text None is = tt
        by-text (Some text) is = λ restarts. by-result text is restarts result tells

  -- the source ended it
  pub advance-near-if : (now : Option (List ℕ)) (a : Reader) (status : Status) (faults_before faults_now : ℕ)
      → IsLinesStop faults_before faults_now status → IfSome told (λ text. IsAt text done a now)
      → IfSome now (λ left. AdvanceIs a reader left later (Err status))
      → IfSome told (λ text. RestartsAreTold logs (counted_lines text) → EndsNear start text later status)
  advance-near-if now a status faults_before faults_now stop at advance = by-text told at
    where
      by-status : (text : List ℕ) → IsAt text done a now → RestartsAreTold logs (counted_lines text) → (s : Status)
          → IsLinesStop faults_before faults_now s → AdvanceIs a reader (drop a.taken text) later (Err s) → EndsNear start text later s
      by-status text is restarts Limit ends (goes_on, none) =
          let all = lines-at-limit text done a reader now is goes_on none in
          λ at_line. absurd (none-ends logs start before StandsNow counts written done so_far (lines_of text) all restarts at_line)
      by-status text is restarts Script ends gives = absurd ends
      by-status text is restarts s ends gives = tt

      by-text : (t : Option (List ℕ)) → IfSome t (λ text. IsAt text done a now)
          → IfSome t (λ text. RestartsAreTold logs (counted_lines text) → EndsNear start text later status)
      by-text None is = tt
      by-text (Some text) is = λ restarts.
          by-status text is restarts status stop (subst (λ n. IfSome n (λ left. AdvanceIs a reader left later (Err status))) is.source advance)
