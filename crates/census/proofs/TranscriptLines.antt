-- No line of a transcript has an LF.
use Rattle.std.proofs.Common.{◌≡◌, ℕ, suc, ◌+◌, Bool, true, false, cond, not, length, List, [], ◌∷◌, ◌++◌, Option, Some, None, Result, Ok, Err}
use Rattle.std.proofs.Common.{codes, decimal, refl, ap, sym, subst, ◌∙◌, append-nil, arith}
use Rattle.std.specs.List.{AllByRecursion, onto_first, position_or_len}
use Rattle.std.proofs.lemmas.Bool.{cond_both, le-ltb}
use Rattle.std.proofs.lemmas.Grind.{flat_map-append}
use Rattle.cs_base.proofs.Elements.{All-append, All-take, All-weaker}
use Rattle.cs_item.specs.declared.picture.Picture.{Picture}
use Rattle.cs_script.specs.declared.event.Event.{Event}
use Rattle.cs_script.specs.declared.event.Event.TheVariants as events
use Rattle.cs_script.specs.declared.fault.LineFault.{LineFault}
use Rattle.cs_script.specs.Grammar.{event_of}
use Rattle.cs_show.specs.Block.{block_lines}
use Rattle.cs_show.specs.Text.{Line, all_but_last, ended, parts, text_of}
use Rattle.cs_show.proofs.BlockLines.{whole-block}
use Rattle.cs_show.proofs.BlockOfText.{IsLine, IsLine-block}
use Rattle.cs_machine.specs.Closing.{whole_view}
use Rattle.cs_machine.specs.Contents.{Contents, contents_of, view_at}
use Rattle.cs_machine.specs.Happens.{happens, print_as, print_at, print_lines}
use Rattle.cs_machine.specs.Names.{Node, State, Joining, Following, Leading, Left, World, empty_world, node_of}
use Rattle.cs_machine.specs.Outcome.{unless_down}
use Rattle.census.specs.Lines.{first_lf}
use Rattle.census.specs.Run.{counted_from, course_from, event_passes}
use Rattle.census.specs.Systems.{System, begun, happens_in}
use Rattle.census.specs.Text.{lines_in, most_lines, without_empty_last}
use Rattle.census.specs.Transcript.{AtEnd, AtFault, AtLimit, Course, End, Said, course, end_text, ends_by, kind_of, told_first}
use Rattle.census.specs.Transcript.{unless_fault, written_by}
use Rattle.census.specs.declared.form.Form.TheVariants.{Replay}
use Rattle.census.proofs.Courses.{course_behind, course_by, written_behind}
use Rattle.census.proofs.LinesOfText.{is_lf, parts-none}
use Rattle.census.proofs.QuietLines.{IsQuietLine, quiet-departed, quiet-down, quiet-echo, quiet-fault, quiet-happens}
use Rattle.census.proofs.QuietLines.{quiet-joining, quiet-no_node}
use Rattle.census.proofs.ToldBlocks.{IsSaid, told-text, told_lines}

-- one byte more in the first line
onto_first_are : (b : ℕ) (lines : List Line) → is_lf b ≡ false → AllByRecursion IsLine lines → AllByRecursion IsLine (onto_first b lines)
onto_first_are b [] other are = ((other, tt), tt)
onto_first_are b (line ∷ lines) other are = ((other, are.0), are.1)

-- the lines that were taken from a text have no LF
parts_are : (text : List ℕ) → AllByRecursion IsLine (parts text)
parts_are [] = (tt, tt)
parts_are (b ∷ text) = elim (is_lf b) as
    (λ t. is_lf b ≡ t → AllByRecursion IsLine (cond t ([] ∷ parts text) (onto_first b (parts text)))) [
      | true ↦ λ e. (tt, parts_are text)
      | false ↦ λ e. onto_first_are b (parts text) e (parts_are text)
    ] refl

-- so have the lines without the last
all_but_last_are : (lines : List Line) → AllByRecursion IsLine lines → AllByRecursion IsLine (all_but_last lines)
all_but_last_are [] are = tt
all_but_last_are (line ∷ []) are = tt
all_but_last_are (line ∷ next ∷ more) are = (are.0, all_but_last_are (next ∷ more) are.1)

-- and those without an empty last one
without_empty_last_are : (lines : List Line) → AllByRecursion IsLine lines → AllByRecursion IsLine (without_empty_last lines)
without_empty_last_are [] are = tt
without_empty_last_are ([] ∷ []) are = tt
without_empty_last_are ((b ∷ bs) ∷ []) are = are
without_empty_last_are (line ∷ next ∷ more) are = (are.0, without_empty_last_are (next ∷ more) are.1)

-- and the lines of a text
pub lines_are : (cut : Bool) (text : List ℕ) → AllByRecursion IsLine (lines_in cut text)
lines_are true text = all_but_last_are (parts text) (parts_are text)
lines_are false text = without_empty_last_are (parts text) (parts_are text)

-- a line has no first LF
first_lf-none : (line : List ℕ) → IsLine line → first_lf line ≡ None
first_lf-none line is =
    ap (λ b. cond b (Some (position_or_len is_lf line)) None) (le-ltb (position_or_len is_lf line) (length line) (omega (arith, far line is)))
  where
    far : (l : List ℕ) → IsLine l → position_or_len is_lf l ≡ length l
    far [] are = refl
    far (b ∷ bs) are =
        let more : 1 + length bs ≡ suc (length bs) = omega arith in
        ap (λ t. cond (not t) (1 + position_or_len is_lf bs) 0) are.0 ∙ ap (λ n. 1 + n) (far bs are.1) ∙ more

-- so it is with the lines of a text
pub lines-clean : (cut : Bool) (text : List ℕ) → AllByRecursion (λ line. first_lf line ≡ None) (lines_in cut text)
lines-clean cut text = All-weaker IsLine (λ line. first_lf line ≡ None) first_lf-none (lines_in cut text) (lines_are cut text)

-- the lines that are told say their events
pub said_are : (lines : List Line) (number written : ℕ) (system : System) → AllByRecursion IsLine lines
    → AllByRecursion IsSaid (course number written system lines).said
said_are [] number written system are = tt
said_are (line ∷ lines) number written system are =
    let by = course_by number written system line lines in
    elim (event_of line) as (λ (r : Result Event LineFault). event_of line ≡ r → AllByRecursion IsSaid (unless_fault number r by).said) [
      | Ok event ↦ λ e.
          cond_both (event_passes written line (happens_in system event)) (ends_by AtLimit)
          (told_first (line, event) (course_behind number written system line lines event)) (λ (c : Course). AllByRecursion IsSaid c.said)
          (λ beyond. tt)
          (λ within.
          ((e, are.0), said_are lines (number + 1) (written_behind number written system line lines event) (happens_in system event).system are.1))
      | Err fault ↦ λ e. tt
    ] refl

-- a line without an LF among the parts of a text is that text
pub line_is : (line : List ℕ) → first_lf line ≡ None → IsLine line
line_is line none = (subst (AllByRecursion IsLine) (parts-none line none) (parts_are line)).0

-- the line of a fault, if there is one
abbrev pub end_lines : End → List Line
end_lines AtEnd = []
end_lines (AtFault number fault) = (codes "fault " ++ decimal number ++ codes " " ++ kind_of fault) ∷ []
end_lines AtLimit = []

-- it is the text of the end
end_lines-text : (end : End) → end_text end ≡ text_of (end_lines end)
end_lines-text AtEnd = refl
end_lines-text (AtFault number fault) = sym (append-nil (end_text (AtFault number fault)))
end_lines-text AtLimit = refl

-- and is quiet
pub end_lines-quiet : (end : End) → AllByRecursion IsQuietLine (end_lines end)
end_lines-quiet AtEnd = tt
end_lines-quiet (AtFault number fault) = (quiet-fault number fault, tt)
end_lines-quiet AtLimit = tt

-- quiet lines have no LF
pub are_lines : (lines : List Line) → AllByRecursion IsQuietLine lines → AllByRecursion IsLine lines
are_lines lines quiet = All-weaker IsQuietLine IsLine (λ l q. q.line) lines quiet

-- the lines of a block have none
block_shown : (p : Picture) → AllByRecursion IsLine (block_lines p)
block_shown p = subst (AllByRecursion IsLine) (sym (whole-block p)) (IsLine-block p)

-- a state prints lines without LF
lines_shown : (c : Contents) (state : State) → AllByRecursion IsLine (print_lines c state)
lines_shown c Joining = (quiet-joining.line, tt)
lines_shown c (Following m) = block_shown (view_at c m.epoch m.known)
lines_shown c (Leading epoch pending) = block_shown (whole_view c epoch)
lines_shown c Left = (quiet-departed.line, tt)

-- nor have those of a node that may be down
lines_said : (world : World) (state : Option State) → AllByRecursion IsLine (unless_down world (print_as world) state).lines
lines_said world None = (quiet-down.line, tt)
lines_said world (Some state) = lines_shown (contents_of world) state

-- nor have those of any print
lines_printed : (world : World) (there : Option Node) → AllByRecursion IsLine (print_at world there).lines
lines_printed world None = (quiet-no_node.line, tt)
lines_printed world (Some node) = lines_said world node.state

-- the lines of any event have no LF
lines_happen : (world : World) (event : Event) → AllByRecursion IsLine (happens world event).lines
lines_happen world (events.Print id) = lines_printed world (node_of world id)
lines_happen world event = are_lines (happens world event).lines (quiet-happens world event refl)

-- the lines that are told have no LF
pub told_are_lines : (lines : List Said) (world : World) → AllByRecursion IsSaid lines → AllByRecursion IsLine (told_lines world lines)
told_are_lines [] world are = tt
told_are_lines ((line, event) ∷ lines) world are =
    let after = happens world event in
    let echoed = quiet-echo line are.0.1 in
    All-append IsLine ((codes "> " ++ line) ∷ after.lines) (told_lines after.world lines)
    (echoed.line, lines_happen world event) (told_are_lines lines after.world are.1)

-- what a replay writes of lines that have no LF
module _ (lines : List Line) (are : AllByRecursion IsLine lines) where
  -- how they are told
  abbrev pub course_here : Course
  course_here = course_from 1 0 (begun Replay) lines

  -- they say their events, as far as they are told
  pub said_here : AllByRecursion IsSaid course_here.said
  said_here = said_are (counted_from 1 lines) 1 0 (begun Replay) (All-take IsLine most_lines lines are)

  -- its lines
  abbrev pub transcript_lines : List Line
  transcript_lines = told_lines empty_world course_here.said ++ end_lines course_here.end

  -- they are what is written
  pub transcript-text : written_by (begun Replay) course_here ≡ text_of transcript_lines
  transcript-text =
      ap (λ t. t ++ end_text course_here.end) (told-text empty_world course_here.said)
      ∙ ap (λ t. text_of (told_lines empty_world course_here.said) ++ t) (end_lines-text course_here.end)
      ∙ sym (flat_map-append ended (told_lines empty_world course_here.said) (end_lines course_here.end))
