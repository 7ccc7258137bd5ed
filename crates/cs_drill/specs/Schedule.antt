-- The schedule of a drill, out of a number of nodes and a seed.
use Rattle.std.specs.Prelude.{ℕ, ◌+◌, ◌-◌, ◌*◌, List, [], ◌∷◌, ◌++◌, map, take, drop, flat_map, ◌==◌, if◌then◌else◌}
use Rattle.std.specs.List.{range_with_len}
use Rattle.std.specs.Int.{div_ceil}
use Rattle.cs_base.specs.Address.{Address}
use Rattle.cs_base.specs.declared.change.Mode.{Mode}
use Rattle.cs_base.specs.declared.change.Mode.TheVariants as modes
use Rattle.cs_script.specs.declared.event.Event.{Event}
use Rattle.cs_script.specs.declared.event.Event.TheVariants as events
use Rattle.cs_drill.specs.Draws.{id, point}
use Rattle.cs_drill.specs.Limits.{moves, rounds, settling, together}

-- the leader is node 1
abbrev pub leader : ℕ
leader = 1

-- the others are nodes 2 to the last
abbrev pub others : ℕ → List ℕ
others nodes = range_with_len 2 (nodes - 1)

-- each node has a port of its own
abbrev pub address_of : ℕ → Address
address_of node = record { ip = 127 ∷ 0 ∷ 0 ∷ 1 ∷ []; port = 20000 + node }

-- the last node is full
abbrev pub mode_of : ℕ → ℕ → Mode
mode_of nodes node = if node == nodes then modes.Full else modes.Partial

abbrev pub settle : Event
settle = events.Settle settling

-- a node's point is drawn behind those of the nodes before it
abbrev pub booted : ℕ → ℕ → ℕ → Event
booted nodes seed node =
    events.Boot node (address_of node) (point seed (3 * (node - 1))) (mode_of nodes node)

-- all nodes start
abbrev pub starts : ℕ → ℕ → List Event
starts nodes seed = events.Lead leader (address_of leader) (point seed 0) ∷ map (booted nodes seed) (others nodes)

-- the nodes that join in this place
abbrev pub batch : ℕ → ℕ → List ℕ
batch nodes place = take together (drop (together * place) (others nodes))

-- these join, and the leader closes the epoch
abbrev pub joined : List ℕ → List Event
joined nodes = map events.Join nodes ++ settle ∷ events.Close ∷ settle ∷ []

-- all join
abbrev pub joins : ℕ → List Event
joins nodes = flat_map (λ place. joined (batch nodes place)) (range_with_len 0 (div_ceil (nodes - 1) together))

-- how many draws stand before a round: three for each node, and those of earlier rounds
abbrev pub draws_before : ℕ → ℕ → ℕ
draws_before nodes round = 3 * nodes + (4 * moves + 2) * round

-- who moves: an id, and then a point
abbrev pub mover : ℕ → ℕ → ℕ → ℕ → ℕ
mover nodes seed before place = id nodes seed (before + 4 * place)

abbrev pub moved : ℕ → ℕ → ℕ → ℕ → Event
moved nodes seed before place =
    events.Move (mover nodes seed before place) (point seed (before + 4 * place + 1))

-- who leaves, and who crashes
abbrev pub leaver : ℕ → ℕ → ℕ → ℕ
leaver nodes seed before = id nodes seed (before + 4 * moves)

abbrev pub victim : ℕ → ℕ → ℕ → ℕ
victim nodes seed before = id nodes seed (before + 4 * moves + 1)

-- a node asks the leader
abbrev pub asked : ℕ → Event
asked node = events.Ask node leader

-- nodes move, and one leaves
abbrev pub changes : ℕ → ℕ → ℕ → List Event
changes nodes seed before =
    map (moved nodes seed before) (range_with_len 0 moves) ++ events.Leave (leaver nodes seed before) ∷ settle ∷ []

-- what is pending comes to the leader, which closes the epoch while one node is down
abbrev pub turn : ℕ → ℕ → List Event
turn nodes down =
    map events.Flush (others nodes) ++ settle
    ∷ events.Crash down ∷ events.Close ∷ settle ∷ events.Restart down ∷ []

-- who moved asks, and who was down
abbrev pub catches_up : ℕ → ℕ → ℕ → List Event
catches_up nodes seed before =
    map (λ place. asked (mover nodes seed before place)) (range_with_len 0 moves)
    ++ asked (victim nodes seed before) ∷ settle ∷ []

-- one round of changes, behind so many draws
abbrev pub round_behind : ℕ → ℕ → ℕ → List Event
round_behind nodes seed before =
    changes nodes seed before ++ turn nodes (victim nodes seed before) ++ catches_up nodes seed before

-- all rounds
unfoldable pub all_rounds : ℕ → ℕ → List Event
all_rounds nodes seed = flat_map (λ round. round_behind nodes seed (draws_before nodes round)) (range_with_len 0 rounds)

-- every node asks once more, and all print
abbrev pub ends : ℕ → List Event
ends nodes = map asked (others nodes) ++ settle ∷ map events.Print (range_with_len 1 nodes)

-- all start and join, change in rounds, and print
abbrev pub schedule : ℕ → ℕ → List Event
schedule nodes seed = starts nodes seed ++ joins nodes ++ all_rounds nodes seed ++ ends nodes
