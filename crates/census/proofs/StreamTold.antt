-- The lines that a reader gave, told one after the other.
use Rattle.std.proofs.Common.{◌≡◌, ℕ, ◌+◌, ◌≤◌, false, List, [], ◌∷◌, ◌++◌}
use Rattle.std.proofs.Common.{Option, Result, Ok, Err, refl, sym, ap, subst, ◌∙◌, append-nil, append_assoc, arith}
use Rattle.std.proofs.lemmas.Bool.{le-ltb}
use Rattle.cs_link.specs.Maps.{ById}
use Rattle.census.specs.declared.status.Status.{Status}
use Rattle.census.specs.declared.status.Status.TheVariants.{Done}
use Rattle.census.specs.declared.teller.Counts.{Counts}
use Rattle.census.specs.Restarts.{RestartsAreTold}
use Rattle.census.specs.Run.{LineIsRead, LineIsTold, LinesAreRead, LinesAreTold, LinesEndIn, WritesFront}
use Rattle.census.specs.Run.{counted_from, course_from, ends_from, last_from, lines_from}
use Rattle.census.specs.Streams.{Appends}
use Rattle.census.specs.Systems.{System}
use Rattle.census.specs.Text.{most_lines}
use Rattle.census.specs.Transcript.{status_of, system_behind, written_by}
use Rattle.census.proofs.Courses.{course-none}
use Rattle.census.proofs.LinesRead.{LinesAreRead-ended, LinesAreRead-further}
use Rattle.census.proofs.ToldLines.{AreToldTo, AreToldTo-ended, AreToldTo-next, AreToldTo-stopped}

-- ---- where no line is left

module _ (number written : ℕ) (system : System) where
  ends-none : ends_from number written system [] ≡ Done
  ends-none =
      ap (λ more. status_of more (course_from number written system []).end) (le-ltb (lines_from number) 0 (omega arith))
      ∙ ap (λ c. status_of false c.end) (course-none (lines_from number) number written system)

  written-none : written_by system (course_from number written system []) ≡ []
  written-none = ap (written_by system) (course-none (lines_from number) number written system)

  last-none : last_from number written system [] ≡ system
  last-none = ap (λ c. system_behind system c.said) (course-none (lines_from number) number written system)

module _ (logs : Option (ById (List ℕ))) (start : System) (before : Option (List ℕ)) where
  -- these lines were told, whatever comes behind them
  abbrev pub AreDone : (StandsNow : System → Type 0) → Counts → Option (List ℕ) → List (List ℕ) → Type 0
  AreDone StandsNow counts now done =
      (later : List (List ℕ)) → RestartsAreTold logs (counted_from 1 (done ++ later))
      → AreToldTo logs StandsNow start (done ++ later) before now counts later

  module _ (StandsNow StandsNext : System → Type 0) (counts next : Counts) (now after : Option (List ℕ)) (done : List (List ℕ))
      (line : List ℕ) (so_far : AreDone StandsNow counts now done) where
    -- and the next one
    pub AreDone-next : (ok : Unit {0}) → next.number ≤ most_lines + 1
        → ((machine : System) → StandsNow machine → RestartsAreTold logs (counted_from counts.number (line ∷ []))
        → LineIsTold StandsNext counts next machine line now after (Ok ok)) → AreDone StandsNext next after (done ++ line ∷ [])
    AreDone-next ok counted told later restarts =
        let same = append_assoc done (line ∷ []) later in
        let here = so_far (line ∷ later) (subst (λ all. RestartsAreTold logs (counted_from 1 all)) same restarts) in
        subst (λ all. AreToldTo logs StandsNext start all before after next later) (sym same)
        (AreToldTo-next logs StandsNow StandsNext start (done ++ line ∷ later) before now after counts next line (line ∷ later) later here refl
        ok counted told)

    module _ (status : Status) (told : (machine : System) → StandsNow machine → RestartsAreTold logs (counted_from counts.number (line ∷ []))
        → LineIsTold StandsNext counts next machine line now after (Err status)) (all later : List (List ℕ)) (is : all ≡ done ++ line ∷ later)
        (restarts : RestartsAreTold logs (counted_from 1 all)) where
      here-at : AreToldTo logs StandsNow start (done ++ line ∷ later) before now counts (line ∷ later)
      here-at = so_far (line ∷ later) (subst (λ ls. RestartsAreTold logs (counted_from 1 ls)) is restarts)

      -- or the next one ended the run
      pub AreDone-stopped : LinesAreTold start all before after (Err status)
      AreDone-stopped =
          subst (λ ls. LinesAreTold start ls before after (Err status)) (sym is)
          (AreToldTo-stopped logs StandsNow StandsNext start (done ++ line ∷ later) before now after counts next line (line ∷ later) later here-at
          refl status told)

      pub AreDone-ended : LinesEndIn start StandsNext all (Err status)
      AreDone-ended =
          subst (λ ls. LinesEndIn start StandsNext ls (Err status)) (sym is)
          (AreToldTo-ended logs StandsNow StandsNext start (done ++ line ∷ later) before now after counts next line (line ∷ later) later here-at
          refl status told)

  module _ (StandsNow : System → Type 0) (counts : Counts) (now : Option (List ℕ)) (done : List (List ℕ))
      (so_far : AreDone StandsNow counts now done) (all : List (List ℕ)) (restarts : RestartsAreTold logs (counted_from 1 all)) where
    -- they are all
    module _ (is : all ≡ done) where
      whole : AreToldTo logs StandsNow start (done ++ []) before now counts []
      whole = so_far [] (subst (λ ls. RestartsAreTold logs (counted_from 1 ls)) (is ∙ sym (append-nil done)) restarts)

      pub AreDone-all : (ok : Unit {0}) → LinesAreTold start all before now (Ok ok)
      AreDone-all ok =
          subst (λ ls. LinesAreTold start ls before now (Ok ok)) (append-nil done ∙ sym is) (
            sym (whole.ends ∙ ends-none counts.number counts.written whole.machine),
            subst (Appends before now)
                (sym (whole.whole ∙ ap (λ t. whole.front ++ t) (written-none counts.number counts.written whole.machine) ∙ append-nil whole.front))
                whole.written,
          )

      pub AreDone-last : (ok : Unit {0}) → LinesEndIn start StandsNow all (Ok ok)
      AreDone-last ok =
          subst (λ ls. LinesEndIn start StandsNow ls (Ok ok)) (append-nil done ∙ sym is)
          (subst StandsNow (sym (whole.last ∙ last-none counts.number counts.written whole.machine)) whole.stands)

    -- a front of what they write was written
    pub AreDone-front : (later : List (List ℕ)) → all ≡ done ++ later
        → WritesFront (written_by start (course_from 1 0 start all)) before now
    AreDone-front later is =
        let here = so_far later (subst (λ ls. RestartsAreTold logs (counted_from 1 ls)) is restarts) in
        subst (λ ls. WritesFront (written_by start (course_from 1 0 start ls)) before now) (sym is)
        (here.front, written_by here.machine (course_from counts.number counts.written here.machine later), here.whole, here.written)

    -- and where no other has ended, exactly what they write
    pub AreDone-exactly : (ended : List (List ℕ)) → ended ≡ done → RestartsAreTold logs (counted_from 1 done)
        → Appends before now (written_by start (course_from 1 0 start ended))
    AreDone-exactly ended is told =
        let here = so_far [] (subst (λ ls. RestartsAreTold logs (counted_from 1 ls)) (sym (append-nil done)) told) in
        subst (Appends before now)
        (sym (ap (λ ls. written_by start (course_from 1 0 start ls)) (is ∙ sym (append-nil done)) ∙ here.whole
        ∙ ap (λ t. here.front ++ t) (written-none counts.number counts.written here.machine) ∙ append-nil here.front))
        here.written

-- ---- what the lines say

-- these lines were read, whatever comes behind them
abbrev pub AreRead : ℕ → List (List ℕ) → Type 0
AreRead number done = (later : List (List ℕ)) (result : Result (Unit {0}) Status) → LinesAreRead number later result
    → LinesAreRead 1 (done ++ later) result

module _ (number next : ℕ) (done : List (List ℕ)) (line : List ℕ) (so_far : AreRead number done) where
  -- and the next one
  pub AreRead-next : (ok : Unit {0}) → LineIsRead number next line (Ok ok) → AreRead next (done ++ line ∷ [])
  AreRead-next ok read later result behind =
      subst (λ all. LinesAreRead 1 all result) (sym (append_assoc done (line ∷ []) later))
      (LinesAreRead-further number next (done ++ line ∷ later) (line ∷ later) line later refl (so_far (line ∷ later)) ok read result behind)

  -- or the run ended there
  pub AreRead-ended : (status : Status) → LineIsRead number next line (Err status) → (all later : List (List ℕ)) → all ≡ done ++ line ∷ later
      → LinesAreRead 1 all (Err status)
  AreRead-ended status read all later is =
      subst (λ ls. LinesAreRead 1 ls (Err status)) (sym is)
      (LinesAreRead-ended number next (done ++ line ∷ later) (line ∷ later) line later refl (so_far (line ∷ later)) status read)
