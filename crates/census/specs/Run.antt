-- What a run writes, with which status it ends, and what the desk tells afterwards.
use Rattle.std.specs.Prelude.{◌≡◌, ◌⊎◌, ⊤, ℕ, ◌+◌, ◌-◌, ◌≤◌, Bool, false, nat_lt}
use Rattle.std.specs.Prelude.{List, [], ◌∷◌, ◌++◌, length, take, drop}
use Rattle.std.specs.List.{AllByRecursion}
use Rattle.std.specs.Prelude.{Option, Some, None, IfSome, IsSomeAnd, Result, Ok, Err, is_err, true}
use Rattle.cs_link.specs.Maps.{ById}
use Rattle.cs_link.specs.Sent.{Datagram}
use Rattle.cs_log.specs.Faults.{HasRisen}
use Rattle.cs_script.specs.declared.event.Event.{Event}
use Rattle.cs_script.specs.Grammar.{event_of}
use Rattle.cs_show.specs.Text.{text_of}
use Rattle.census.specs.declared.status.Status.{Status}
use Rattle.census.specs.declared.status.Status.TheVariants.{Done, Usage, Script, Read, Write, Link, Log, Memory, Limit}
use Rattle.census.specs.declared.teller.Counts.{Counts}
use Rattle.census.specs.declared.form.Form.{Form}
use Rattle.census.specs.Drilled.{drill_ends, drill_text}
use Rattle.census.specs.Lines.{first_lf, most_piece}
use Rattle.census.specs.Streams.{Appends}
use Rattle.census.specs.Systems.{After, AreLogsIn, AreTrafficIn, System, happens_in}
use Rattle.census.specs.Text.{counted_lines, goes_on, is_cut, lines_in, lines_of, most_lines}
use Rattle.census.specs.Transcript.{AtEnd, Course, End, course, ends, goes_beyond, output, status_of, transcript}
use Rattle.census.specs.Transcript.{system_behind}
use Rattle.census.specs.Transcript.{has_fault, written_by}

-- what was written is a front of the text
abbrev pub WritesFront : List ℕ → Option (List ℕ) → Option (List ℕ) → Type 0
WritesFront text before after =
    (front : List ℕ) × (rest : List ℕ) × (text ≡ front ++ rest) × Appends before after front

-- a run that would write all of a text and end with a status: it did so, or failed behind a front of the text
abbrev pub WritesUpTo : Status → Status → List ℕ → Option (List ℕ) → Option (List ℕ) → Type 0
WritesUpTo Done end text before after = (Done ≡ end) × Appends before after text
WritesUpTo Script end text before after = (Script ≡ end) × Appends before after text
WritesUpTo Limit end text before after = (Limit ≡ end) × Appends before after text
WritesUpTo Read end text before after = WritesFront text before after
WritesUpTo Write end text before after = WritesFront text before after
WritesUpTo Link end text before after = WritesFront text before after
WritesUpTo Log end text before after = WritesFront text before after
WritesUpTo Memory end text before after = WritesFront text before after
WritesUpTo Usage end text before after = Unit {0}

-- the whole transcript at the end of the text, at a line outside the grammar and at a limit; else a front of it
abbrev pub WritesTranscript : Form → Status → List ℕ → Option (List ℕ) → Option (List ℕ) → Type 0
WritesTranscript form status text before after =
    WritesUpTo status (ends form text) (transcript form text) before after

-- the summary of a drill, where it comes to its end; nothing at the other ends, but a front of it where writing failed
abbrev pub WritesSummary : Status → ℕ → ℕ → Option (List ℕ) → Option (List ℕ) → Type 0
WritesSummary Done nodes seed before after =
    (Done ≡ drill_ends nodes seed) × Appends before after (drill_text nodes seed)
WritesSummary Limit nodes seed before after = (Limit ≡ drill_ends nodes seed) × Appends before after []
WritesSummary Write nodes seed before after = WritesFront (drill_text nodes seed) before after
WritesSummary status nodes seed before after = Appends before after []

-- how a drill ends: at its end or where writing failed; or at a limit, a link, a log or for want of memory, and
-- nothing is written then
abbrev pub IsDrillEnd : Status → (unwritten : Type 0) → Type 0
IsDrillEnd Done unwritten = ⊤
IsDrillEnd Write unwritten = ⊤
IsDrillEnd Limit unwritten = unwritten
IsDrillEnd Link unwritten = unwritten
IsDrillEnd Log unwritten = unwritten
IsDrillEnd Memory unwritten = unwritten
IsDrillEnd status unwritten = ⊥

-- a status that only reading gives: the source failed, or memory ran out
abbrev pub IsReadStop : ℕ → ℕ → Status → Type 0
IsReadStop before now Read = HasRisen before now
IsReadStop before now Memory = Unit {0}
IsReadStop before now status = ⊥

-- a status that ends the lines of a source: it failed or has more than counts, or memory ran out
abbrev pub IsLinesStop : ℕ → ℕ → Status → Type 0
IsLinesStop before now Read = HasRisen before now
IsLinesStop before now Limit = ⊤
IsLinesStop before now Memory = ⊤
IsLinesStop before now status = ⊥

-- a status that ends the run at a line, with what has to hold where writing, a link or a log failed
abbrev pub IsLineStop : (unwritten unlinked unlogged : Type 0) → Status → Type 0
IsLineStop unwritten unlinked unlogged Script = ⊤
IsLineStop unwritten unlinked unlogged Limit = ⊤
IsLineStop unwritten unlinked unlogged Write = unwritten
IsLineStop unwritten unlinked unlogged Link = unlinked
IsLineStop unwritten unlinked unlogged Log = unlogged
IsLineStop unwritten unlinked unlogged Memory = ⊤
IsLineStop unwritten unlinked unlogged status = ⊥

-- a status that ends the run at an event: a limit, a link or a log that failed, with what has to hold then, or want of
-- memory
abbrev pub IsEventStop : (unlinked unlogged : Type 0) → Status → Type 0
IsEventStop unlinked unlogged Limit = ⊤
IsEventStop unlinked unlogged Link = unlinked
IsEventStop unlinked unlogged Log = unlogged
IsEventStop unlinked unlogged Memory = ⊤
IsEventStop unlinked unlogged status = ⊥

-- how many lines count from the one with this number on
abbrev pub lines_from : ℕ → ℕ
lines_from number = most_lines + 1 - number

-- those of these lines that count, of which the first has this number
abbrev pub counted_from : ℕ → List (List ℕ) → List (List ℕ)
counted_from number lines = take (lines_from number) lines

-- what they lead to in a system, where so many bytes are written
abbrev pub course_from : ℕ → ℕ → System → List (List ℕ) → Course
course_from number written system lines = course number written system (counted_from number lines)

-- how they end the run, where nothing stands behind them
abbrev pub ends_from : ℕ → ℕ → System → List (List ℕ) → Status
ends_from number written system lines =
    status_of (nat_lt (lines_from number) (length lines)) (course_from number written system lines).end

-- the system behind those that are told
abbrev pub last_from : ℕ → ℕ → System → List (List ℕ) → System
last_from number written system lines = system_behind system (course_from number written system lines).said

-- lines are told from such a place on
abbrev pub TellsFrom : Status → ℕ → ℕ → System → List (List ℕ) → Option (List ℕ) → Option (List ℕ) → Type 0
TellsFrom status number written system lines before after =
    WritesUpTo status (ends_from number written system lines)
    (written_by system (course_from number written system lines)) before after

-- where a run ended at the end of its lines or at one outside the grammar, its last system is of this kind
abbrev pub EndsIn : (System → Type 0) → Status → System → Type 0
EndsIn IsKind Done last = IsKind last
EndsIn IsKind Script last = IsKind last
EndsIn IsKind status last = ⊤

-- the event of a line goes beyond a limit, where so many bytes are written
abbrev pub event_passes : ℕ → List ℕ → After → Bool
event_passes written line after = goes_beyond after.system (written + length (output line after))

-- behind an event of a line, within the limits: the bytes of its output are counted, and the code stands for the next
-- system
pub record StandsBehind (StandsNow : System → Type 0) (old new : Counts) (line : List ℕ) (after : After) : Type 0 where
  pub written : new.written ≡ old.written + length (output line after)
  pub within : event_passes old.written line after ≡ false
  pub stands : StandsNow after.system

-- a line in a system: it was told, and the next line comes in the next system; or it ended the run, and where it is
-- outside the grammar, the code stands for the last system
abbrev pub LineIsTold : (StandsNow : System → Type 0) → Counts → Counts → System → List ℕ → Option (List ℕ)
    → Option (List ℕ) → Result (Unit {0}) Status → Type 0
LineIsTold StandsNow old new system line before after (Ok done) =
    (event : Event) × (event_of line ≡ Ok event) × (new.number ≡ old.number + 1)
    × StandsBehind StandsNow old new line (happens_in system event)
    × Appends before after (output line (happens_in system event))
LineIsTold StandsNow old new system line before after (Err status) =
    (lines : List (List ℕ)) → TellsFrom status old.number old.written system (line ∷ lines) before after
    × EndsIn StandsNow status (last_from old.number old.written system (line ∷ lines))

-- the status of a result, where nothing stands behind the lines
abbrev pub status_in : Result (Unit {0}) Status → Status
status_in (Ok done) = Done
status_in (Err status) = status

-- the lines of a text, from a system on: all were told, or one ended the run
abbrev pub LinesAreTold : System → List (List ℕ) → Option (List ℕ) → Option (List ℕ) → Result (Unit {0}) Status
    → Type 0
LinesAreTold start lines before after result = TellsFrom (status_in result) 1 0 start lines before after

-- a line is read that has a number: it says an event, or is outside the grammar
abbrev pub LineIsRead : ℕ → ℕ → List ℕ → Result (Unit {0}) Status → Type 0
LineIsRead number next line (Ok done) =
    (number ≤ most_lines) × (next ≡ number + 1) × (is_err (event_of line) ≡ false)
LineIsRead number next line (Err Script) = (number ≤ most_lines) × (is_err (event_of line) ≡ true)
LineIsRead number next line (Err status) = ⊤

-- lines are read from the one with this number on: each says an event and all count, or one that counts is outside the
-- grammar
abbrev pub LinesAreRead : ℕ → List (List ℕ) → Result (Unit {0}) Status → Type 0
LinesAreRead number lines (Ok done) =
    (has_fault (counted_from number lines) ≡ false) × (length lines ≤ lines_from number)
LinesAreRead number lines (Err Script) = has_fault (counted_from number lines) ≡ true
LinesAreRead number lines (Err status) = ⊤

-- a status that ends the run at a source or at one of its lines
abbrev pub IsTextStop : (unread unwritten unlinked unlogged : Type 0) → Status → Type 0
IsTextStop unread unwritten unlinked unlogged Read = unread
IsTextStop unread unwritten unlinked unlogged status = IsLineStop unwritten unlinked unlogged status

-- what the end of a run says of the lines of its text: at the end of the text each says an event and nothing stands
-- behind what counts, and at a line outside the grammar there is one
abbrev pub EndsAsRead : Status → List ℕ → Type 0
EndsAsRead Done text = (has_fault (counted_lines text) ≡ false) × (goes_on text ≡ false)
EndsAsRead Script text = has_fault (counted_lines text) ≡ true
EndsAsRead status text = ⊤

-- a front of what some lines lead to was written
abbrev pub WritesOfLines : System → Option (List ℕ) → Option (List ℕ) → Type 0
WritesOfLines start before after =
    (lines : List (List ℕ)) × AllByRecursion (λ line. first_lf line ≡ None) lines
    × WritesFront (written_by start (course_from 1 0 start lines)) before after

-- exactly what the lines say that ended within the bytes which were read of a text was written
abbrev pub TellsEnded : System → List ℕ → Option (List ℕ) → Option (List ℕ) → Option (List ℕ) → Type 0
TellsEnded start text now before after =
    (count : ℕ) × (now ≡ Some (drop count text))
    × Appends before after (written_by start (course_from 1 0 start (lines_in true (take count text))))

-- the lines of a source: all were told and nothing is left, one ended the run, or the source goes on behind what
-- counts; where it failed, those are told that had ended
abbrev pub SourceIsTold : System → List ℕ → Option (List ℕ) → Option (List ℕ) → Option (List ℕ)
    → Result (Unit {0}) Status → Type 0
SourceIsTold start text now before after (Ok done) =
    (is_cut text ≡ false) × (now ≡ Some []) × LinesAreTold start (lines_of text) before after (Ok done)
SourceIsTold start text now before after (Err Read) =
    TellsEnded start text now before after × LinesAreTold start (lines_of text) before after (Err Read)
SourceIsTold start text now before after (Err status) =
    LinesAreTold start (lines_of text) before after (Err status)
    ⊎ ((status ≡ Limit) × (is_cut text ≡ true) × LinesAreTold start (lines_of text) before after (Ok tt))

-- the run ends at a line: one outside the grammar, or one of which the event goes beyond a limit
abbrev pub IsAtLine : End → Type 0
IsAtLine AtEnd = ⊥
IsAtLine end = ⊤

-- bytes of the lines of a text up to the one at which the run ends, each with an LF
abbrev pub told_length : System → List ℕ → ℕ
told_length start text =
    length (text_of (take (length (course_from 1 0 start (lines_of text)).said + 1) (lines_of text)))

-- where it ends at a line, at most a piece behind this line was read
abbrev pub IsNear : System → List ℕ → Option (List ℕ) → Type 0
IsNear start text now = IsAtLine (course_from 1 0 start (lines_of text)).end
    → (count : ℕ) × (count ≤ told_length start text + most_piece) × (now ≡ Some (drop count text))

-- the run ended at Script or at Limit, and where that is at a line, at most a piece behind it was read
abbrev pub EndsNear : System → List ℕ → Option (List ℕ) → Status → Type 0
EndsNear start text now Script = IsNear start text now
EndsNear start text now Limit = IsNear start text now
EndsNear start text now status = ⊤

-- where all were told or one is outside the grammar, their last system is of this kind
abbrev pub LinesEndIn : System → (System → Type 0) → List (List ℕ) → Result (Unit {0}) Status → Type 0
LinesEndIn start IsKind lines result = EndsIn IsKind (status_in result) (last_from 1 0 start lines)

-- where the desk told its logs before, it tells those of the system now
abbrev pub TellsLogs : Option (ById (List ℕ)) → Option (ById (List ℕ)) → System → Type 0
TellsLogs before after system = IfSome before (λ logs. IsSomeAnd after (AreLogsIn system))

-- and what its nodes sent
abbrev pub TellsTraffic : Option (ById (List Datagram)) → Option (ById (List Datagram)) → System → Type 0
TellsTraffic before after system = IfSome before (λ traffic. IsSomeAnd after (AreTrafficIn system))
