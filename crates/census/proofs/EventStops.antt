-- With which status an event ends the run, and which limit it would go beyond.
use Rattle.std.proofs.Common.{◌≡◌, ◌⊎◌, ℕ, ◌+◌, ◌<◌, ◌≤◌, true, false, ◌||◌, nat_lt, List, length, refl, ap, sym, subst, ◌∙◌, inl, inr, ⊎_elim, Result, Ok, Err}
use Rattle.std.specs.Prelude.{IfErr}
use Rattle.std.proofs.lemmas.Bool.{le-ltb, lt-ltb}
use Rattle.cs_base.specs.Limits.{most_output, most_sent}
use Rattle.cs_link.specs.Counts.{RisesWith}
use Rattle.cs_log.specs.Faults.{HasRisen}
use Rattle.cs_world.specs.Desk.{DeskTold, OnlyGrants}
use Rattle.cs_world.specs.Seats.{Seated, link_faults_of, log_faults_of}
use Rattle.cs_world.specs.Stands.{IsCounted}
use Rattle.cs_world.specs.declared.fault.WorldFault.{WorldFault}
use Rattle.cs_world.specs.declared.fault.WorldFault.TheVariants as world_faults
use Rattle.census.specs.declared.status.Status.{Status}
use Rattle.census.specs.declared.status.Status.TheVariants.{Script, Write, Link, Log, Memory, Limit}
use Rattle.census.specs.Run.{IsEventStop, IsLineStop, event_passes}
use Rattle.census.specs.Standing.{IsLimitIn}
use Rattle.census.specs.Systems.{After, System, sent_in}
use Rattle.census.specs.Transcript.{goes_beyond, output}
use Rattle.census.specs.WorldFaults.{status_for}

-- the status of a fault of the world ends the run at its event
pub IsEventStop-world : (fault : WorldFault) (ungranted : Type 0) (seats : List Seated) → IsCounted ungranted seats fault
    → IsEventStop (ungranted ⊎ (0 < link_faults_of seats)) (0 < log_faults_of seats) (status_for fault)
IsEventStop-world world_faults.Limit ungranted seats counted = tt
IsEventStop-world world_faults.Link ungranted seats counted = counted
IsEventStop-world world_faults.Log ungranted seats counted = counted
IsEventStop-world world_faults.Memory ungranted seats counted = tt

-- where that is a limit, the event goes beyond one
pub passes-world : (fault : WorldFault) (after : After) (written : ℕ) (line : List ℕ) → IsLimitIn after.system fault → status_for fault ≡ Limit
    → event_passes written line after ≡ true
passes-world world_faults.Limit after written line beyond is =
    ap (λ sent. sent || nat_lt most_output (written + length (output line after))) (lt-ltb most_sent (sent_in after.system) beyond)
passes-world world_faults.Link after written line beyond is = cc
passes-world world_faults.Log after written line beyond is = cc
passes-world world_faults.Memory after written line beyond is = cc

-- a status that ends the run at an event ends it at the event's line
pub IsLineStop-event : (status : Status) (unwritten unlinked unlogged : Type 0) → IsEventStop unlinked unlogged status
    → IsLineStop unwritten unlinked unlogged status
IsLineStop-event Limit unwritten unlinked unlogged stop = tt
IsLineStop-event Link unwritten unlinked unlogged stop = stop
IsLineStop-event Log unwritten unlinked unlogged stop = stop
IsLineStop-event Memory unwritten unlinked unlogged stop = tt
IsLineStop-event status unwritten unlinked unlogged stop = absurd stop

-- what has to hold at it may be weaker
pub IsLineStop-weaker : (status : Status) (unwritten unlinked unlogged unwritten_now unlinked_now unlogged_now : Type 0)
    → (unwritten → unwritten_now) → (unlinked → unlinked_now) → (unlogged → unlogged_now)
    → IsLineStop unwritten unlinked unlogged status → IsLineStop unwritten_now unlinked_now unlogged_now status
IsLineStop-weaker Script a b c d e f writes links logs stop = tt
IsLineStop-weaker Limit a b c d e f writes links logs stop = tt
IsLineStop-weaker Write a b c d e f writes links logs stop = writes stop
IsLineStop-weaker Link a b c d e f writes links logs stop = links stop
IsLineStop-weaker Log a b c d e f writes links logs stop = logs stop
IsLineStop-weaker Memory a b c d e f writes links logs stop = tt
IsLineStop-weaker status a b c d e f writes links logs stop = absurd stop

-- where it is known of the end of some calls, it may be weaker too
pub IsLineStop-result : {T : Type 0} (result : Result T Status) (unwritten unlinked unlogged unlinked_now unlogged_now : Type 0)
    → IfErr result (IsLineStop unwritten unlinked unlogged) → (unlinked → unlinked_now) → (unlogged → unlogged_now)
    → IfErr result (IsLineStop unwritten unlinked_now unlogged_now)
IsLineStop-result (Ok done) unwritten unlinked unlogged unlinked_now unlogged_now stop links logs = tt
IsLineStop-result (Err status) unwritten unlinked unlogged unlinked_now unlogged_now stop links logs =
    IsLineStop-weaker status _ _ _ _ _ _ (λ written. written) links logs stop

-- so does a desk count what links and logs had counted that it takes back
pub IsLineStop-kept : {T : Type 0} (result : Result T Status) (unwritten : Type 0) (old mid new : DeskTold) (links logs : ℕ)
    → OnlyGrants old mid → new.faults ≡ mid.faults → RisesWith links mid.link_faults new.link_faults
    → RisesWith logs mid.log_faults new.log_faults
    → IfErr result (IsLineStop unwritten (HasRisen old.faults mid.faults ⊎ (0 < links)) (0 < logs))
    → IfErr result (IsLineStop unwritten (HasRisen old.faults new.faults ⊎ HasRisen old.link_faults new.link_faults)
    (HasRisen old.log_faults new.log_faults))
IsLineStop-kept result unwritten old mid new links logs grants faults link_faults log_faults stop =
    let same_links = ap (λ (told : DeskTold). told.link_faults) grants.others in
    let same_logs = ap (λ (told : DeskTold). told.log_faults) grants.others in
    IsLineStop-result result _ _ _ _ _ stop
    (λ either. ⊎_elim (λ refused. inl (subst (HasRisen old.faults) (sym faults) refused))
    (λ failed. inr (subst (λ n. HasRisen n new.link_faults) same_links (link_faults.1 failed))) either)
    (λ failed. subst (λ n. HasRisen n new.log_faults) same_logs (log_faults.1 failed))

-- bytes beyond those that may be written go beyond a limit
pub goes_beyond-written : (system : System) (written : ℕ) → most_output < written → goes_beyond system written ≡ true
goes_beyond-written system written many =
    elim (nat_lt most_sent (sent_in system)) as (λ sent. (sent || nat_lt most_output written) ≡ true) [
      | true ↦ refl
      | false ↦ lt-ltb most_output written many
    ]

-- within both limits an event goes beyond none
pub goes_beyond-within : (system : System) (written : ℕ) → sent_in system ≤ most_sent → written ≤ most_output → goes_beyond system written ≡ false
goes_beyond-within system written sent few =
    ap (λ b. b || nat_lt most_output written) (le-ltb most_sent (sent_in system) sent) ∙ le-ltb most_output written few
