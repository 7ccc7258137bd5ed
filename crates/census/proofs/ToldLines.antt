-- Line by line: what is written of one, and how far the run is behind it.
use Rattle.std.proofs.Common.{◌≡◌, ℕ, suc, ◌+◌, ◌≤◌, true, false, List, [], ◌∷◌, ◌++◌, length, Option, Ok, Err}
use Rattle.std.proofs.Common.{refl, sym, ap, subst, ◌∙◌, append_assoc, arith}
use Rattle.cs_link.specs.Maps.{ById}
use Rattle.cs_script.specs.declared.event.Event.{Event}
use Rattle.cs_script.specs.declared.fault.LineFault.{LineFault}
use Rattle.cs_script.specs.Grammar.{event_of}
use Rattle.census.specs.declared.status.Status.{Status}
use Rattle.census.specs.declared.status.Status.TheVariants.{Script, Write, Link, Log, Memory, Limit}
use Rattle.census.specs.declared.teller.Counts.{Counts}
use Rattle.census.specs.Restarts.{RestartsAreTold}
use Rattle.census.specs.Run.{EndsIn, IsEventStop, LineIsTold, LinesAreTold, LinesEndIn, WritesFront, counted_from, course_from, ends_from}
use Rattle.census.specs.Run.{event_passes, last_from}
use Rattle.census.specs.Streams.{Appends}
use Rattle.census.specs.Systems.{System, happens_in}
use Rattle.census.specs.Text.{most_lines}
use Rattle.census.specs.Transcript.{AtFault, Said, end_text, output, written_by}
use Rattle.census.proofs.Courses.{end-told, ends_from-beyond, ends_from-fault, ends_from-told, last-fault, last-told, said-told}
use Rattle.census.proofs.Courses.{written-beyond, written-fault, written-told}
use Rattle.census.proofs.Restarts.{RestartsAreTold-alone, RestartsAreTold-rest}
use Rattle.census.proofs.RunLemmas.{Appends-more, Appends-nothing, WritesFront-longer, WritesFront-nothing, WritesUpTo-behind}

module _ (StandsNow : System → Type 0) (old new : Counts) (system : System) (line : List ℕ) (before : Option (List ℕ)) where
  -- what is written of the lines from this one on
  abbrev text_from : List (List ℕ) → List ℕ
  text_from lines = written_by system (course_from old.number old.written system (line ∷ lines))

  -- memory ran out before anything was written
  pub LineIsTold-unwritten : LineIsTold StandsNow old new system line before before (Err Memory)
  LineIsTold-unwritten = λ lines. (WritesFront-nothing (text_from lines) before, tt)

  module _ (few : old.number ≤ most_lines) (event : Event) (said : event_of line ≡ Ok event) where
    -- the event would go beyond a limit, a link or a log failed, or memory ran out
    pub LineIsTold-stopped : (unlinked unlogged : Type 0) (status : Status) → IsEventStop unlinked unlogged status
        → (status ≡ Limit → event_passes old.written line (happens_in system event) ≡ true)
        → LineIsTold StandsNow old new system line before before (Err status)
    LineIsTold-stopped unlinked unlogged Limit stop passes = λ lines. (
      let beyond = passes refl in (
        sym (ends_from-beyond old.number old.written system line lines few event said beyond),
        subst (Appends before before) (sym (written-beyond old.number old.written system line lines few event said beyond)) (Appends-nothing before),
      ),
      tt,
    )
    LineIsTold-stopped unlinked unlogged Link stop passes = λ lines. (WritesFront-nothing (text_from lines) before, tt)
    LineIsTold-stopped unlinked unlogged Log stop passes = λ lines. (WritesFront-nothing (text_from lines) before, tt)
    LineIsTold-stopped unlinked unlogged Memory stop passes = LineIsTold-unwritten
    LineIsTold-stopped unlinked unlogged status none passes = absurd none

  module _ (after : Option (List ℕ)) where
    -- a front of what begins the lines was written, and the sink failed
    LineIsTold-failed : (status : Status) → status ≡ Write → ((lines : List (List ℕ)) → WritesFront (text_from lines) before after)
        → LineIsTold StandsNow old new system line before after (Err status)
    LineIsTold-failed status is front =
        subst (λ s. LineIsTold StandsNow old new system line before after (Err s)) (sym is) (λ lines. (front lines, tt))

    module _ (few : old.number ≤ most_lines) (fault : LineFault) (said : event_of line ≡ Err fault) where
      -- the line of a fault was written
      pub LineIsTold-fault : (text : List ℕ) → StandsNow system → text ≡ end_text (AtFault old.number fault) → Appends before after text
          → LineIsTold StandsNow old new system line before after (Err Script)
      LineIsTold-fault text now is written = λ lines. (
        (
          sym (ends_from-fault old.number old.written system line lines few fault said),
          subst (Appends before after) (is ∙ sym (written-fault old.number old.written system line lines few fault said)) written,
        ),
        subst StandsNow (sym (last-fault old.number old.written system line lines few fault said)) now,
      )

      -- or a front of it
      pub LineIsTold-fault_failed : (text : List ℕ) (status : Status) → status ≡ Write → text ≡ end_text (AtFault old.number fault)
          → WritesFront text before after → LineIsTold StandsNow old new system line before after (Err status)
      LineIsTold-fault_failed text status failed is front =
          LineIsTold-failed status failed (λ lines.
          subst (λ t. WritesFront t before after) (is ∙ sym (written-fault old.number old.written system line lines few fault said)) front)

    module _ (few : old.number ≤ most_lines) (event : Event) (said : event_of line ≡ Ok event) where
      -- a front of the output of an event was written
      pub LineIsTold-event_failed : (text : List ℕ) (status : Status) → status ≡ Write → text ≡ output line (happens_in system event)
          → event_passes old.written line (happens_in system event) ≡ false → WritesFront text before after
          → LineIsTold StandsNow old new system line before after (Err status)
      LineIsTold-event_failed text status failed is within front =
          LineIsTold-failed status failed (λ lines.
          subst (λ t. WritesFront t before after) (sym (written-told old.number old.written system line lines few event said within))
          (WritesFront-longer _ _ before after (subst (λ t. WritesFront t before after) is front)))

-- the lines before these were told, from a system on, and the code stands for the machine's; who comes back later has a log
-- that tells
pub record AreToldTo (logs : Option (ById (List ℕ))) (StandsNow : System → Type 0) (start : System) (all : List (List ℕ))
    (before now : Option (List ℕ)) (counts : Counts) (lines : List (List ℕ)) : Type 0 where
  pub machine : System
  pub stands : StandsNow machine
  pub restarts : RestartsAreTold logs (counted_from counts.number lines)
  pub front : List ℕ
  pub ends : ends_from 1 0 start all ≡ ends_from counts.number counts.written machine lines
  pub whole : written_by start (course_from 1 0 start all)
      ≡ front ++ written_by machine (course_from counts.number counts.written machine lines)
  pub last : last_from 1 0 start all ≡ last_from counts.number counts.written machine lines
  pub said : length (course_from 1 0 start all).said + 1 ≡ counts.number + length (course_from counts.number counts.written machine lines).said
  pub end : (course_from 1 0 start all).end ≡ (course_from counts.number counts.written machine lines).end
  pub written : Appends before now front

-- at first no line was told
pub AreToldTo-start : (logs : Option (ById (List ℕ))) (StandsNow : System → Type 0) (start : System) (all : List (List ℕ))
    (before : Option (List ℕ)) (counts : Counts) → StandsNow start → counts.number ≡ 1 → counts.written ≡ 0
    → RestartsAreTold logs (counted_from 1 all) → AreToldTo logs StandsNow start all before before counts all
AreToldTo-start logs StandsNow start all before counts stands number written restarts = record {
  machine = start;
  stands = stands;
  restarts = subst (λ n. RestartsAreTold logs (counted_from n all)) (sym number) restarts;
  front = [];
  ends = ap (λ n. ends_from n 0 start all) (sym number) ∙ ap (λ w. ends_from counts.number w start all) (sym written);
  whole = ap (λ n. written_by start (course_from n 0 start all)) (sym number)
      ∙ ap (λ w. written_by start (course_from counts.number w start all)) (sym written);
  last = ap (λ n. last_from n 0 start all) (sym number) ∙ ap (λ w. last_from counts.number w start all) (sym written);
  said =
      let len = ap (λ n. length (course_from n 0 start all).said) (sym number)
      ∙ ap (λ w. length (course_from counts.number w start all).said) (sym written) in
      omega (arith, number, len);
  end = ap (λ n. (course_from n 0 start all).end) (sym number) ∙ ap (λ w. (course_from counts.number w start all).end) (sym written);
  written = Appends-nothing before;
}

module _ (logs : Option (ById (List ℕ))) (StandsNow StandsNext : System → Type 0) (start : System) (all : List (List ℕ))
    (before mid after : Option (List ℕ)) (counts next : Counts) (line : List ℕ) (rest lines : List (List ℕ))
    (so_far : AreToldTo logs StandsNow start all before mid counts rest) (is : rest ≡ line ∷ lines) where
  -- how far the run is before the next line
  here : AreToldTo logs StandsNow start all before mid counts (line ∷ lines)
  here = subst (λ l. AreToldTo logs StandsNow start all before mid counts l) is so_far

  -- the next line alone
  alone : RestartsAreTold logs (counted_from counts.number (line ∷ []))
  alone = RestartsAreTold-alone logs counts.number line lines here.restarts

  -- the next line was told
  pub AreToldTo-next : (done : Unit {0}) → next.number ≤ most_lines + 1
      → ((machine : System) → StandsNow machine → RestartsAreTold logs (counted_from counts.number (line ∷ []))
      → LineIsTold StandsNext counts next machine line mid after (Ok done))
      → AreToldTo logs StandsNext start all before after next lines
  AreToldTo-next done counted told =
      let (event, said, number, behind, written) = told here.machine here.stands alone in
      let few : counts.number ≤ most_lines = omega (arith, number, counted) in
      let after_it = happens_in here.machine event in
      let piece = output line after_it in
      record {
        machine = after_it.system;
        stands = behind.stands;
        restarts = subst (λ n. RestartsAreTold logs (counted_from n lines)) (sym number)
            (RestartsAreTold-rest logs counts.number line lines few here.restarts);
        front = here.front ++ piece;
        ends = here.ends ∙ ends_from-told counts.number counts.written here.machine line lines few event said behind.within
            ∙ ap (λ n. ends_from n (counts.written + length piece) after_it.system lines) (sym number)
            ∙ ap (λ w. ends_from next.number w after_it.system lines) (sym behind.written);
        whole = here.whole
            ∙ ap (λ t. here.front ++ t) (written-told counts.number counts.written here.machine line lines few event said behind.within)
            ∙ sym (append_assoc here.front piece _)
            ∙ ap (λ n. (here.front ++ piece) ++ written_by after_it.system (course_from n (counts.written + length piece) after_it.system lines))
            (sym number)
            ∙ ap (λ w. (here.front ++ piece) ++ written_by after_it.system (course_from next.number w after_it.system lines)) (sym behind.written);
        last = here.last ∙ last-told counts.number counts.written here.machine line lines few event said behind.within
            ∙ ap (λ n. last_from n (counts.written + length piece) after_it.system lines) (sym number)
            ∙ ap (λ w. last_from next.number w after_it.system lines) (sym behind.written);
        said =
            let len = ap (length {A = Said}) (said-told counts.number counts.written here.machine line lines few event said behind.within)
            ∙ ap (λ n. suc (length (course_from n (counts.written + length piece) after_it.system lines).said)) (sym number)
            ∙ ap (λ w. suc (length (course_from next.number w after_it.system lines).said)) (sym behind.written) in
            omega (arith, here.said, number, len);
        end = here.end ∙ end-told counts.number counts.written here.machine line lines few event said behind.within
            ∙ ap (λ n. (course_from n (counts.written + length piece) after_it.system lines).end) (sym number)
            ∙ ap (λ w. (course_from next.number w after_it.system lines).end) (sym behind.written);
        written = Appends-more before mid after here.front piece here.written written;
      }

  -- the run ended at the next line
  module _ (status : Status)
      (told : (machine : System) → StandsNow machine → RestartsAreTold logs (counted_from counts.number (line ∷ []))
      → LineIsTold StandsNext counts next machine line mid after (Err status)) where
    -- what was written then
    pub AreToldTo-stopped : LinesAreTold start all before after (Err status)
    AreToldTo-stopped =
        WritesUpTo-behind status _ _ _ here.front _ before mid after here.ends here.whole here.written
        (told here.machine here.stands alone lines).0

    -- and for which system the code stands
    pub AreToldTo-ended : LinesEndIn start StandsNext all (Err status)
    AreToldTo-ended = subst (EndsIn StandsNext status) (sym here.last) (told here.machine here.stands alone lines).1
