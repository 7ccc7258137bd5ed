-- The course of lines of which the first is told, is outside the grammar, or goes beyond a limit.
use Rattle.std.proofs.Common.{◌≡◌, ℕ, zero, suc, ◌+◌, ◌≤◌, Bool, true, false, if◌then◌else◌, nat_lt, List, [], ◌∷◌, ◌++◌, length, take}
use Rattle.std.proofs.Common.{Result, Ok, Err, refl, ap, ◌∙◌, append_assoc, arith}
use Rattle.std.proofs.lemmas.Bool.{le-ltb}
use Rattle.std.proofs.lemmas.Bool.Decides.{nat_tests}
use Rattle.cs_script.specs.declared.event.Event.{Event}
use Rattle.cs_script.specs.declared.fault.LineFault.{LineFault}
use Rattle.cs_script.specs.Grammar.{event_of}
use Rattle.census.specs.declared.status.Status.{Status}
use Rattle.census.specs.declared.status.Status.TheVariants.{Done, Script, Limit}
use Rattle.census.specs.Run.{IsAtLine, course_from, ends_from, event_passes, last_from, lines_from}
use Rattle.census.specs.Systems.{System, happens_in}
use Rattle.census.specs.Text.{most_lines}
use Rattle.census.specs.Transcript.{AtEnd, AtFault, AtLimit, Course, course, end_text, ends_by, output, status_of, system_behind, told, told_first}
use Rattle.census.specs.Transcript.{unless_fault, written_by}

-- what an event leads to, by whether it goes beyond a limit
abbrev pub unless_beyond : Bool → List ℕ → Event → Course → Course
unless_beyond beyond line event more = if beyond then ends_by AtLimit else told_first (line, event) more

module _ (number written : ℕ) (system : System) (line : List ℕ) (lines : List (List ℕ)) where
  -- so many bytes are written behind an event
  abbrev pub written_behind : Event → ℕ
  written_behind event = written + length (output line (happens_in system event))

  -- the course of the lines behind an event
  abbrev pub course_behind : Event → Course
  course_behind event = course (number + 1) (written_behind event) (happens_in system event).system lines

  -- what an event leads to
  abbrev pub course_by : Event → Course
  course_by event = unless_beyond (event_passes written line (happens_in system event)) line event (course_behind event)

  -- a line that says an event
  course-said : (event : Event) → event_of line ≡ Ok event → course number written system (line ∷ lines) ≡ course_by event
  course-said event e = ap (λ (r : Result Event LineFault). unless_fault number r course_by) e

  -- within the limits it is told
  course-told : (event : Event) → event_of line ≡ Ok event → event_passes written line (happens_in system event) ≡ false
      → course number written system (line ∷ lines) ≡ told_first (line, event) (course_behind event)
  course-told event e within = course-said event e ∙ ap (λ b. unless_beyond b line event (course_behind event)) within

  -- beyond them it isn't
  course-beyond : (event : Event) → event_of line ≡ Ok event → event_passes written line (happens_in system event) ≡ true
      → course number written system (line ∷ lines) ≡ ends_by AtLimit
  course-beyond event e beyond = course-said event e ∙ ap (λ b. unless_beyond b line event (course_behind event)) beyond

  -- a line outside the grammar ends the run
  course-fault : (fault : LineFault) → event_of line ≡ Err fault → course number written system (line ∷ lines) ≡ ends_by (AtFault number fault)
  course-fault fault e = ap (λ (r : Result Event LineFault). unless_fault number r course_by) e

-- one line more counts from a line on than from the next
lines_from-next : (number : ℕ) → number ≤ most_lines → lines_from number ≡ suc (lines_from (number + 1))
lines_from-next number few = omega arith

-- lines that still count begin with the first
pub take-counted : (number : ℕ) (line : List ℕ) (lines : List (List ℕ)) → number ≤ most_lines
    → take (lines_from number) (line ∷ lines) ≡ line ∷ take (lines_from (number + 1)) lines
take-counted number line lines few = ap (λ n. take n (line ∷ lines)) (lines_from-next number few)

-- whether more lines stand there than count is the same behind the first
more-behind : (number : ℕ) (line : List ℕ) (lines : List (List ℕ)) → number ≤ most_lines
    → nat_lt (lines_from number) (length (line ∷ lines)) ≡ nat_lt (lines_from (number + 1)) (length lines)
more-behind number line lines few = grind (arith, nat_tests)

module _ (number written : ℕ) (system : System) (line : List ℕ) (lines : List (List ℕ)) (few : number ≤ most_lines) where
  -- the lines behind the first that count
  abbrev rest : List (List ℕ)
  rest = take (lines_from (number + 1)) lines

  -- the course begins with the first
  course_from-first : course_from number written system (line ∷ lines) ≡ course number written system (line ∷ rest)
  course_from-first = ap (course number written system) (take-counted number line lines few)

  -- the end of lines with a course
  ends_from-course : (c : Course) → course number written system (line ∷ rest) ≡ c
      → ends_from number written system (line ∷ lines) ≡ status_of (nat_lt (lines_from (number + 1)) (length lines)) c.end
  ends_from-course c is =
      ap (λ b. status_of b (course_from number written system (line ∷ lines)).end) (more-behind number line lines few)
      ∙ ap (λ (found : Course). status_of (nat_lt (lines_from (number + 1)) (length lines)) found.end) (course_from-first ∙ is)

  -- what is written of lines with a course
  written-course : (c : Course) → course number written system (line ∷ rest) ≡ c
      → written_by system (course_from number written system (line ∷ lines)) ≡ written_by system c
  written-course c is = ap (written_by system) (course_from-first ∙ is)

  -- which lines of theirs are told
  said-course : (c : Course) → course number written system (line ∷ rest) ≡ c → (course_from number written system (line ∷ lines)).said ≡ c.said
  said-course c is = ap (λ (found : Course). found.said) (course_from-first ∙ is)

  -- and why no more are
  end-course : (c : Course) → course number written system (line ∷ rest) ≡ c → (course_from number written system (line ∷ lines)).end ≡ c.end
  end-course c is = ap (λ (found : Course). found.end) (course_from-first ∙ is)

  -- the last system of lines with a course
  last-course : (c : Course) → course number written system (line ∷ rest) ≡ c
      → last_from number written system (line ∷ lines) ≡ system_behind system c.said
  last-course c is = ap (λ (found : Course). system_behind system found.said) (course_from-first ∙ is)

  module _ (event : Event) (said : event_of line ≡ Ok event) where
    -- so many bytes are written behind the event
    abbrev now : ℕ
    now = written + length (output line (happens_in system event))

    -- lines of which the first is told end as those behind it
    pub ends_from-told : event_passes written line (happens_in system event) ≡ false
        → ends_from number written system (line ∷ lines) ≡ ends_from (number + 1) now (happens_in system event).system lines
    ends_from-told within =
        ends_from-course (told_first (line, event) (course_behind number written system line rest event))
        (course-told number written system line rest event said within)

    -- its output is written before theirs
    pub written-told : event_passes written line (happens_in system event) ≡ false
        → written_by system (course_from number written system (line ∷ lines))
        ≡ output line (happens_in system event)
        ++ written_by (happens_in system event).system (course_from (number + 1) now (happens_in system event).system lines)
    written-told within =
        let after = happens_in system event in
        let more = course_behind number written system line rest event in
        written-course (told_first (line, event) more) (course-told number written system line rest event said within)
        ∙ append_assoc (output line after) (told after.system more.said) (end_text more.end)

    -- their last system is its own
    pub last-told : event_passes written line (happens_in system event) ≡ false
        → last_from number written system (line ∷ lines) ≡ last_from (number + 1) now (happens_in system event).system lines
    last-told within =
        last-course (told_first (line, event) (course_behind number written system line rest event))
        (course-told number written system line rest event said within)

    -- the first is told before them
    pub said-told : event_passes written line (happens_in system event) ≡ false
        → (course_from number written system (line ∷ lines)).said
        ≡ (line, event) ∷ (course_from (number + 1) now (happens_in system event).system lines).said
    said-told within =
        said-course (told_first (line, event) (course_behind number written system line rest event))
        (course-told number written system line rest event said within)

    -- and they end as before
    pub end-told : event_passes written line (happens_in system event) ≡ false
        → (course_from number written system (line ∷ lines)).end ≡ (course_from (number + 1) now (happens_in system event).system lines).end
    end-told within =
        end-course (told_first (line, event) (course_behind number written system line rest event))
        (course-told number written system line rest event said within)

    -- where the first goes beyond a limit, the run ends there
    pub ends_from-beyond : event_passes written line (happens_in system event) ≡ true → ends_from number written system (line ∷ lines) ≡ Limit
    ends_from-beyond beyond = ends_from-course (ends_by AtLimit) (course-beyond number written system line rest event said beyond)

    -- and nothing is written
    pub written-beyond : event_passes written line (happens_in system event) ≡ true
        → written_by system (course_from number written system (line ∷ lines)) ≡ []
    written-beyond beyond = written-course (ends_by AtLimit) (course-beyond number written system line rest event said beyond)

  module _ (fault : LineFault) (said : event_of line ≡ Err fault) where
    -- where the first is outside the grammar, the run ends there
    pub ends_from-fault : ends_from number written system (line ∷ lines) ≡ Script
    ends_from-fault = ends_from-course (ends_by (AtFault number fault)) (course-fault number written system line rest fault said)

    -- and its fault is written
    pub written-fault : written_by system (course_from number written system (line ∷ lines)) ≡ end_text (AtFault number fault)
    written-fault = written-course (ends_by (AtFault number fault)) (course-fault number written system line rest fault said)

    -- in the system before it
    pub last-fault : last_from number written system (line ∷ lines) ≡ system
    last-fault = last-course (ends_by (AtFault number fault)) (course-fault number written system line rest fault said)

-- where no line is left
pub course-none : (count number written : ℕ) (system : System) → course number written system (take count []) ≡ ends_by AtEnd
course-none zero number written system = refl
course-none (suc count) number written system = refl

-- where a run ends at the first of some lines, none of them is told
module _ (number written : ℕ) (system : System) (line : List ℕ) (lines : List (List ℕ)) (status : Status) (undone : ¬ (status ≡ Done)) where
  first-ends : (count : ℕ) → status ≡ status_of (nat_lt count 1) (course number written system (take count (line ∷ []))).end
      → IsAtLine (course number written system (take count (line ∷ lines))).end
      → (course number written system (take count (line ∷ lines))).said ≡ []
  first-ends zero is at_line = absurd at_line
  first-ends (suc count) is at_line = by-event (event_of line) refl
    where
      by-limit : (event : Event) → event_of line ≡ Ok event → (beyond : Bool) → event_passes written line (happens_in system event) ≡ beyond
          → (course number written system (line ∷ take count lines)).said ≡ []
      by-limit event said true beyond =
          ap (λ (c : Course). c.said) (course-beyond number written system line (take count lines) event said beyond)
      by-limit event said false within =
          let told = course-told number written system line (take count []) event said within in
          let end = (course number written system (line ∷ take count [])).end in
          let none = course-none count (number + 1) (written_behind number written system line lines event) (happens_in system event).system in
          absurd (undone (is ∙ ap (λ more. status_of more end) (le-ltb (suc count) 1 (omega arith))
          ∙ ap (λ (c : Course). status_of false c.end) told ∙ ap (λ (c : Course). status_of false c.end) none))

      by-event : (read : Result Event LineFault) → event_of line ≡ read → (course number written system (line ∷ take count lines)).said ≡ []
      by-event (Ok event) said = by-limit event said (event_passes written line (happens_in system event)) refl
      by-event (Err fault) said = ap (λ (c : Course). c.said) (course-fault number written system line (take count lines) fault said)

  pub none-told : status ≡ ends_from number written system (line ∷ []) → IsAtLine (course_from number written system (line ∷ lines)).end
      → (course_from number written system (line ∷ lines)).said ≡ []
  none-told is at_line = first-ends (lines_from number) is at_line
