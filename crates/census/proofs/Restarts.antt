-- Who comes back has a log that tells: from the text to its lines, and from these to the log.
use Rattle.std.proofs.Common.{◌≡◌, ℕ, zero, suc, ◌+◌, ◌≤◌, false, List, [], ◌∷◌, take, Option, Some, None, Result, Ok}
use Rattle.std.proofs.Common.{refl, subst, inl, inr}
use Rattle.std.specs.Option.{option_map}
use Rattle.std.specs.Prelude.{IfSome, IsSome}
use Rattle.std.proofs.lemmas.Bool.{true≢false}
use Rattle.cs_base.proofs.Elements.{All-take}
use Rattle.cs_link.specs.Maps.{ById}
use Rattle.cs_link.specs.declared.link.Link.{Ghosts as LinkGhosts}
use Rattle.cs_log.specs.declared.log.Log.{Ghosts as LogGhosts}
use Rattle.cs_node.specs.Placed.{Placed}
use Rattle.cs_script.specs.declared.event.Event.{Event}
use Rattle.cs_script.specs.declared.event.Event.TheVariants as events
use Rattle.cs_script.specs.Grammar.{event_of}
use Rattle.cs_world.specs.Processes.{Parts, parts_in}
use Rattle.cs_world.specs.Seats.{parts_at, state_at}
use Rattle.cs_world.specs.Stands.{CanTell}
use Rattle.cs_world.specs.declared.seats.Seats.{Seats}
use Rattle.census.specs.declared.status.Status.{Status}
use Rattle.census.specs.declared.status.Status.TheVariants.{Done, Script}
use Rattle.census.specs.Restarts.{RestartIsTold, RestartsAreTold, brings_back}
use Rattle.census.specs.Run.{EndsIn, LinesEndIn, TellsLogs, counted_from, last_from, lines_from, status_in}
use Rattle.census.specs.Systems.{System}
use Rattle.census.specs.Text.{most_lines}
use Rattle.census.proofs.Courses.{take-counted}

-- ---- lines

-- the first of lines of which that is known
first-told : (logs : Option (ById (List ℕ))) (line : List ℕ) (lines : List (List ℕ)) → RestartsAreTold logs (line ∷ lines)
    → RestartIsTold logs (event_of line)
first-told logs line lines (inl told) = inl told
first-told logs line lines (inr none) = inr none.0

-- those behind it
rest-told : (logs : Option (ById (List ℕ))) (line : List ℕ) (lines : List (List ℕ)) → RestartsAreTold logs (line ∷ lines)
    → RestartsAreTold logs lines
rest-told logs line lines (inl told) = inl told
rest-told logs line lines (inr none) = inr none.1

-- the first alone, as far as it counts
alone-told : (count : ℕ) (logs : Option (ById (List ℕ))) (line : List ℕ) (lines : List (List ℕ)) → RestartsAreTold logs (take count (line ∷ lines))
    → RestartsAreTold logs (take count (line ∷ []))
alone-told zero logs line lines restarts = restarts
alone-told (suc count) logs line lines (inl told) = inl told
alone-told (suc count) logs line lines (inr none) = inr (none.0, All-take (λ l. brings_back (event_of l) ≡ false) count [] tt)

module _ (logs : Option (ById (List ℕ))) (number : ℕ) (line : List ℕ) (lines : List (List ℕ)) where
  -- the first of lines that count, alone
  pub RestartsAreTold-alone : RestartsAreTold logs (counted_from number (line ∷ lines)) → RestartsAreTold logs (counted_from number (line ∷ []))
  RestartsAreTold-alone restarts = alone-told (lines_from number) logs line lines restarts

  module _ (few : number ≤ most_lines) (restarts : RestartsAreTold logs (counted_from number (line ∷ lines))) where
    -- the first of them, where it counts, and those behind it
    by-first : RestartsAreTold logs (line ∷ counted_from (number + 1) lines)
    by-first = subst (RestartsAreTold logs) (take-counted number line lines few) restarts

    -- the event of the first
    pub RestartIsTold-first : (event : Event) → event_of line ≡ Ok event → RestartIsTold logs (Ok event)
    RestartIsTold-first event said = subst (RestartIsTold logs) said (first-told logs line (counted_from (number + 1) lines) by-first)

    -- those behind it that count
    pub RestartsAreTold-rest : RestartsAreTold logs (counted_from (number + 1) lines)
    RestartsAreTold-rest = rest-told logs line (counted_from (number + 1) lines) by-first

-- ---- the logs of the desk

-- a system of a kind is the last one, however the run ended
ends_in : (IsKind : System → Type 0) (status : Status) (last : System) → IsKind last → EndsIn IsKind status last
ends_in IsKind Done last is = is
ends_in IsKind Script last is = is
ends_in IsKind status last is = tt

-- what a desk tells of its logs at the end, where that needs that its logs are told: it says nothing of a desk that doesn't
pub LinesEndIn-logs : (before after : Option (ById (List ℕ))) (start : System) (lines : List (List ℕ)) (result : Result (Unit {0}) Status)
    → (RestartsAreTold before (counted_from 1 lines) → LinesEndIn start (TellsLogs before after) lines result)
    → LinesEndIn start (TellsLogs before after) lines result
LinesEndIn-logs None after start lines result ended =
    ends_in (TellsLogs None after) (status_in result) (last_from 1 0 start lines) tt
LinesEndIn-logs (Some logs) after start lines result ended = ended (inl refl)

module _ {L G : Type 0} (link : LinkGhosts L) (log : LogGhosts G) (seats : Seats (Placed L G)) (logs : Option (ById (List ℕ)))
    (tell : IsSome logs → (store : G) → IsSome (log.bytes store)) where
  -- a process that is there has a log that tells
  process-tells : (there : Option (Placed L G)) → IsSome logs → IfSome (option_map (parts_in link log) there) (λ (p : Parts). IsSome p.log.bytes)
  process-tells None told = tt
  process-tells (Some process) told = tell told process.log

  -- a node that an event brings back has a log that tells
  pub CanTell-told : (event : Event) → RestartIsTold logs (Ok event) → CanTell event (parts_at link log seats)
  CanTell-told (events.Restart id) (inl told) = process-tells (state_at seats id) told
  CanTell-told (events.Restart id) (inr none) = absurd (true≢false none)
  CanTell-told event restart = tt
