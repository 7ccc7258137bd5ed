-- The plan of a live run, out of a number of nodes and a port: events, and the places where all nodes receive.
use Rattle.std.specs.Prelude.{ℕ, ◌+◌, ◌*◌, pos, List, [], ◌∷◌, ◌++◌, map}
use Rattle.std.specs.List.{range_with_len}
use Rattle.cs_base.specs.Address.{Address}
use Rattle.cs_base.specs.Axes.{Axes}
use Rattle.cs_base.specs.declared.change.Mode.TheVariants as modes
use Rattle.cs_script.specs.declared.event.Event.{Event}
use Rattle.cs_script.specs.declared.event.Event.TheVariants as events
use Rattle.cs_drill.specs.Schedule.{asked, leader, others}
use Rattle.cs_drill.specs.declared.plan.Planned.{Planned}
use Rattle.cs_drill.specs.declared.plan.Planned.TheVariants as planned

-- each node has a port of its own
abbrev pub address_behind : ℕ → ℕ → Address
address_behind port node = record { ip = 127 ∷ 0 ∷ 0 ∷ 1 ∷ []; port = port + node }

-- a point on the first axis
abbrev pub at_distance : ℕ → Axes
at_distance x = record { x = pos x; y = pos 0; z = pos 0 }

-- the leader starts in the middle
abbrev pub led : ℕ → Event
led port = events.Lead leader (address_behind port leader) (at_distance 0)

-- and each other node a thousand microseconds behind the one before it
abbrev pub booted : ℕ → ℕ → Event
booted port node = events.Boot node (address_behind port node) (at_distance (1000 * node)) modes.Partial

-- an event of each of these nodes
abbrev pub each : (ℕ → Event) → List ℕ → List Planned
each event_of nodes = map (λ node. planned.Event (event_of node)) nodes

-- all nodes start
abbrev pub live_starts : ℕ → ℕ → List Planned
live_starts nodes port = planned.Event (led port) ∷ each (booted port) (others nodes)

-- the others join
abbrev pub live_joins : ℕ → List Planned
live_joins nodes = each events.Join (others nodes) ++ planned.Poll ∷ []

-- the leader closes an epoch
abbrev pub live_close : List Planned
live_close = planned.Event events.Close ∷ planned.Poll ∷ []

-- the others ask the leader, and all print
abbrev pub live_ends : ℕ → List Planned
live_ends nodes = each asked (others nodes) ++ planned.Poll ∷ each events.Print (range_with_len 1 nodes)

-- all start and join, two epochs are closed, and all print
abbrev pub live_plan : ℕ → ℕ → List Planned
live_plan nodes port =
    live_starts nodes port ++ live_joins nodes ++ live_close ++ live_close ++ live_ends nodes
