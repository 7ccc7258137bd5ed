-- What an action on the node with an id does to the seats.
use Rattle.std.specs.Prelude.{◌≡◌, ◌≢◌, ℕ, length, Option, None, Some}
use Rattle.std.specs.Option.{option_map}
use Rattle.cs_link.specs.declared.link.Link.{Ghosts as LinkGhosts}
use Rattle.cs_log.specs.declared.log.Log.{Ghosts as LogGhosts}
use Rattle.cs_node.specs.Placed.{Placed}
use Rattle.cs_world.specs.Actions.{DoesAction}
use Rattle.cs_world.specs.Processes.{Parts}
use Rattle.cs_world.specs.Seats.{parts_at}
use Rattle.cs_world.specs.declared.action.Action.{Action}
use Rattle.cs_world.specs.declared.acting.Acted.{Acted}
use Rattle.cs_world.specs.declared.seats.Seats.{Seats}

-- the node acted, and had sent so many packets before
pub record NodeActs (before : Parts) (action : Action) (acted : Acted) (now : Parts) : Type 0 where
  pub earlier : Some acted.earlier ≡ option_map length before.link.sent
  pub acts : DoesAction before action acted.answer now

-- there is no such node, or it acted
abbrev pub ActsUnder : Option Parts → Action → Option Acted → Option Parts → Type 0
ActsUnder before action None now = (before ≡ None) × (now ≡ None)
ActsUnder before action (Some acted) now =
    (old : Parts) × (new : Parts) × (before ≡ Some old) × (now ≡ Some new) × NodeActs old action acted new

-- so it is under the id, and all other nodes are as they were
pub record ActsAt {L G : Type 0} (link : LinkGhosts L) (log : LogGhosts G) (id : ℕ) (action : Action)
    (acted : Option Acted) (before now : Seats (Placed L G)) : Type 0 where
  pub node : ActsUnder (parts_at link log before id) action acted (parts_at link log now id)
  pub others : (other : ℕ) → other ≢ id → parts_at link log now other ≡ parts_at link log before other
