-- The grammar of a line: the event that it says, or its first fault.
use Rattle.std.specs.Prelude.{ℕ, ◌==◌, List, [], ◌∷◌, length, if◌then◌else◌, Result, Ok, Err}
use Rattle.std.specs.List.{slice_split}
use Rattle.std.specs.Str.{bytes_eq}
use Rattle.cs_script.specs.Kinds.{◌>>=◌, Kind, value_of}
use Rattle.cs_script.specs.Rows.{Row, Says, rows}
use Rattle.cs_script.specs.declared.event.Event.{Event}
use Rattle.cs_script.specs.declared.fault.LineFault.{LineFault}
use Rattle.cs_script.specs.declared.fault.LineFault.TheVariants as faults

-- each word is of its kind, or the first that isn't has the fault
abbrev pub said : (kinds : List Kind) → Says kinds → List (List ℕ) → Result Event LineFault
said [] event args = Ok event
said (kind ∷ kinds) says [] = Err faults.Count
said (kind ∷ kinds) says (word ∷ args) = do
  value ← value_of kind word
  said kinds (says value) args

-- a line has as many words behind the first as its row has kinds
abbrev pub event_by : Row → List (List ℕ) → Result Event LineFault
event_by row args = if length args == length row.kinds then said row.kinds row.says args else Err faults.Count

-- the first word says which row it is
abbrev pub event_among : List Row → List ℕ → List (List ℕ) → Result Event LineFault
event_among [] word args = Err faults.Word
event_among (row ∷ others) word args =
    if bytes_eq word row.word then event_by row args else event_among others word args

-- the event that some words say
abbrev pub event_in : List (List ℕ) → Result Event LineFault
event_in [] = Err faults.Word
event_in (word ∷ args) = event_among rows word args

-- the words stand between single spaces
abbrev pub words_of : List ℕ → List (List ℕ)
words_of line = slice_split (λ b. b == 32) line

-- the event that a line says
unfoldable pub event_of : List ℕ → Result Event LineFault
event_of line = event_in (words_of line)
