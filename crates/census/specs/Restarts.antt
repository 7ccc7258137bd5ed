-- Which lines bring a node back from its log, and where it is known what that log has.
use Rattle.std.specs.Prelude.{◌≡◌, ◌⊎◌, ℕ, Bool, true, false, List, Option, IsSome, IsSomeAnd, Result, Ok}
use Rattle.std.specs.List.{AllByRecursion}
use Rattle.cs_link.specs.Maps.{ById}
use Rattle.cs_script.specs.declared.event.Event.{Event}
use Rattle.cs_script.specs.declared.event.Event.TheVariants as events
use Rattle.cs_script.specs.declared.fault.LineFault.{LineFault}
use Rattle.cs_script.specs.Grammar.{event_of}
use Rattle.census.specs.Text.{counted_lines}

-- the line brings a node back from its log
abbrev pub brings_back : Result Event LineFault → Bool
brings_back (Ok (events.Restart id)) = true
brings_back line = false

-- none of these lines does
abbrev pub HasNoRestart : List (List ℕ) → Type 0
HasNoRestart lines = AllByRecursion (λ line. brings_back (event_of line) ≡ false) lines

-- who comes back has a log that tells: the desk tells its logs, or the line brings no node back
abbrev pub RestartIsTold : Option (ById (List ℕ)) → Result Event LineFault → Type 0
RestartIsTold logs line = IsSome logs ⊎ (brings_back line ≡ false)

-- the same of lines
abbrev pub RestartsAreTold : Option (ById (List ℕ)) → List (List ℕ) → Type 0
RestartsAreTold logs lines = IsSome logs ⊎ HasNoRestart lines

-- the same of what a source has left, which may not tell it
abbrev pub TellsRestarts : Option (ById (List ℕ)) → Option (List ℕ) → Type 0
TellsRestarts logs left = IsSome logs ⊎ IsSomeAnd left (λ text. HasNoRestart (counted_lines text))
