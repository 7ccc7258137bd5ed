-- The transcript of a text under a form, and why it ends.
use Rattle.std.specs.Prelude.{ℕ, ◌+◌, Bool, ◌||◌, nat_lt, List, [], ◌∷◌, ◌++◌, length, Result, Ok, Err, decimal, codes}
use Rattle.std.specs.Prelude.{if◌then◌else◌, is_err}
use Rattle.std.specs.List.{list_any}
use Rattle.cs_base.specs.Limits.{most_output, most_sent}
use Rattle.cs_script.specs.declared.event.Event.{Event}
use Rattle.cs_script.specs.declared.fault.LineFault.{LineFault}
use Rattle.cs_script.specs.declared.fault.LineFault.TheVariants as faults
use Rattle.census.specs.declared.status.Status.{Status}
use Rattle.census.specs.declared.status.Status.TheVariants.{Done, Script, Limit}
use Rattle.cs_show.specs.Text.{ended, text_of}
use Rattle.cs_script.specs.Grammar.{event_of}
use Rattle.census.specs.Systems.{After, System, begun, happens_in, sent_in}
use Rattle.census.specs.Text.{counted_lines, goes_on}
use Rattle.census.specs.declared.form.Form.{Form}

-- some line is outside the grammar
abbrev pub has_fault : List (List ℕ) → Bool
has_fault lines = list_any (λ line. is_err (event_of line)) lines

-- the line as it is said again
abbrev pub echo : List ℕ → List ℕ
echo line = ended (codes "> " ++ line)

-- what is written of a line: the line again, its answer, and the packets that it sends
abbrev pub output : List ℕ → After → List ℕ
output line after = echo line ++ text_of after.lines

-- a line and the event that it says
abbrev pub Said : Type 0
Said = List ℕ × Event

-- line by line
abbrev pub told : System → List Said → List ℕ
told system [] = []
told system (line ∷ lines) =
    let after = happens_in system line.1 in
    output line.0 after ++ told after.system lines

-- the system behind lines that are told in one
abbrev pub system_behind : System → List Said → System
system_behind system [] = system
system_behind system (line ∷ lines) = system_behind (happens_in system line.1).system lines

-- why a run ends: all lines were told, a line is outside the grammar, or an event would go beyond a limit
pub data End : Type 0 where
  AtEnd : End
  AtFault : (number : ℕ) → (fault : LineFault) → End
  AtLimit : End

-- the lines that are told, and why no more are
pub record Course : Type 0 where
  pub said : List Said
  pub end : End

-- no line is told
abbrev pub ends_by : End → Course
ends_by end = record { said = []; end = end }

-- more bytes were sent than a run may, or so many bytes are more than it may write
abbrev pub goes_beyond : System → ℕ → Bool
goes_beyond system written = nat_lt most_sent (sent_in system) || nat_lt most_output written

-- a line that says an event, or is outside the grammar
abbrev pub unless_fault : ℕ → Result Event LineFault → (Event → Course) → Course
unless_fault number (Ok event) next = next event
unless_fault number (Err fault) next = ends_by (AtFault number fault)

-- a line is told before others
abbrev pub told_first : Said → Course → Course
told_first line more = record { said = line ∷ more.said; end = more.end }

-- lines, numbered from a number on, in a system, where so many bytes are written: up to the first that ends the run
abbrev pub course : ℕ → ℕ → System → List (List ℕ) → Course
course number written system [] = ends_by AtEnd
course number written system (line ∷ lines) = unless_fault number (event_of line) (λ (event : Event).
    (let after = happens_in system event in
    let now = written + length (output line after) in
    if goes_beyond after.system now then ends_by AtLimit
    else told_first (line, event) (course (number + 1) now after.system lines)))

-- the word of a fault; want of memory is no fault of a line, and has none
abbrev pub kind_of : LineFault → List ℕ
kind_of faults.Word = codes "word"
kind_of faults.Count = codes "count"
kind_of faults.Number = codes "number"
kind_of faults.Point = codes "point"
kind_of faults.Address = codes "address"
kind_of faults.Bytes = codes "bytes"
kind_of faults.Memory = []

-- the line of a fault, or nothing
abbrev pub end_text : End → List ℕ
end_text AtEnd = []
end_text (AtFault number fault) = ended (codes "fault " ++ decimal number ++ codes " " ++ kind_of fault)
end_text AtLimit = []

-- what a course writes in a system
abbrev pub written_by : System → Course → List ℕ
written_by system c = told system c.said ++ end_text c.end

-- the course of a text under a form: from where nothing has happened, with lines numbered from 1
abbrev pub course_of : Form → List ℕ → Course
course_of form text = course 1 0 (begun form) (counted_lines text)

-- the whole transcript
abbrev pub transcript : Form → List ℕ → List ℕ
transcript form text = written_by (begun form) (course_of form text)

-- the system behind all lines that are told
abbrev pub last_system : Form → List ℕ → System
last_system form text = system_behind (begun form) (course_of form text).said

-- the status of an end
abbrev pub status_of : Bool → End → Status
status_of more AtEnd = if more then Limit else Done
status_of more (AtFault number fault) = Script
status_of more AtLimit = Limit

-- the first cause that ends the run: a line outside the grammar, an event that would go beyond a limit, or the end of
-- what counts
abbrev pub ends : Form → List ℕ → Status
ends form text = status_of (goes_on text) (course_of form text).end
