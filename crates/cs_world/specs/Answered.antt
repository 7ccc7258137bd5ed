-- What is told once a node has acted: for any action, and any seats before it, that made the seats what they are.
use Rattle.std.specs.Prelude.{ℕ, Option, Result, IfErr}
use Rattle.std.specs.declared.string.String.{String}
use Rattle.cs_link.specs.declared.link.Link.{Ghosts as LinkGhosts}
use Rattle.cs_log.specs.declared.log.Log.{Ghosts as LogGhosts}
use Rattle.cs_machine.specs.Names.{World}
use Rattle.cs_machine.specs.Outcome.{After}
use Rattle.cs_node.specs.Placed.{Placed}
use Rattle.cs_world.specs.Acting.{ActsAt}
use Rattle.cs_world.specs.Alone.{Alone}
use Rattle.cs_world.specs.AloneEvents.{acts}
use Rattle.cs_world.specs.AloneStands.{AnswersAlone, AreAlone}
use Rattle.cs_world.specs.Happening.{CanBeTold, IsActed}
use Rattle.cs_world.specs.Seats.{parts_at, seats_of}
use Rattle.cs_world.specs.Stands.{Answers, IsCounted, Stands}
use Rattle.cs_world.specs.declared.action.Action.{Action}
use Rattle.cs_world.specs.declared.acting.Acted.{Acted}
use Rattle.cs_world.specs.declared.fault.WorldFault.{WorldFault}
use Rattle.cs_world.specs.declared.nodes.Nodes.{Nodes}
use Rattle.cs_world.specs.declared.seats.Seats.{Seats}

-- the nodes as they were with other seats
abbrev pub seated_so : {L G : Type 0} → Nodes L G → Seats (Placed L G) → Nodes L G
seated_so code seats = record code { seats = seats }

-- of nodes that stood for a world, what the action leads to in the machine is told
abbrev pub AnswersActed : {L G A : Type 0} → LinkGhosts L → LogGhosts G → ℕ → Option Acted → Nodes L G → Nodes L G
    → Result (String A) WorldFault → Type 0
AnswersActed {L} {G} link log id acted code later result =
    (before : Seats (Placed L G)) (action : Action) → ActsAt link log id action acted before code.seats
    → (world : World) (after : After) → Stands link log (seated_so code before) world
    → CanBeTold action (parts_at link log before id) → IsActed world id action after
    → Answers link log later after result

-- of a node alone, what it decided on its values
abbrev pub AnswersActedAlone : {L G A : Type 0} → LinkGhosts L → LogGhosts G → ℕ → Option Acted → Nodes L G → Nodes L G
    → Result (String A) WorldFault → Type 0
AnswersActedAlone {L} {G} link log id acted code later result =
    (before : Seats (Placed L G)) (action : Action) → ActsAt link log id action acted before code.seats
    → (alone : Alone) → AreAlone link log (seated_so code before) alone
    → CanBeTold action (parts_at link log before id)
    → AnswersAlone link log later (acts alone id action) result

-- and a fault has its cause
abbrev pub CountsActed : {L G A : Type 0} → LinkGhosts L → LogGhosts G → ℕ → Option Acted → Nodes L G → Nodes L G
    → Result (String A) WorldFault → Type 0
CountsActed {L} {G} link log id acted code later result =
    (before : Seats (Placed L G)) (action : Action) → ActsAt link log id action acted before code.seats
    → IfErr result (IsCounted ⊥ (seats_of link log later.seats))
