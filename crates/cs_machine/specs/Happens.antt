-- One event of the machine's world: the next world, and the lines of its answer and of the packets it sends.
use Rattle.std.specs.Prelude.{ℕ, Bool, ◌&&◌, ◌||◌, ◌==◌, List, [], ◌∷◌, ◌++◌, Option, Some, None, decimal, codes}
use Rattle.std.specs.Prelude.{if◌then◌else◌}
use Rattle.std.specs.List.{list_any}
use Rattle.std.specs.Str.{bytes_eq}
use Rattle.cs_base.specs.Address.{Address}
use Rattle.cs_base.specs.Axes.{Axes}
use Rattle.cs_base.specs.declared.change.Mode.{Mode}
use Rattle.cs_base.specs.declared.change.Mode.TheVariants as modes
use Rattle.cs_packet.specs.declared.own.Own.{Own}
use Rattle.cs_show.specs.Block.{block_lines}
use Rattle.cs_script.specs.declared.event.Event.{Event}
use Rattle.cs_script.specs.declared.event.Event.TheVariants as events
use Rattle.cs_machine.specs.Asking.{ask_leader_step, ask_step, need_step}
use Rattle.cs_machine.specs.Changes.{flush_step, join_step, leave_step, move_step}
use Rattle.cs_machine.specs.Closing.{close_step, whole_view}
use Rattle.cs_machine.specs.Contents.{Contents, contents_of, view_at}
use Rattle.cs_machine.specs.Delivering.{deliver_at, lost, sent_at}
use Rattle.cs_machine.specs.Entries as entries
use Rattle.cs_machine.specs.Names.{State, Joining, Following, Leading, Left, Membership, Node, World}
use Rattle.cs_machine.specs.Names.{node_of, leader_of}
use Rattle.cs_machine.specs.Outcome.{After, answer, commit, unless_down, with_node}
use Rattle.cs_machine.specs.Restoring.{restored}
use Rattle.cs_machine.specs.Settling.{settled}
use Rattle.cs_machine.specs.Step.{Step}

-- whether two addresses are equal
abbrev pub same_address : Address → Address → Bool
same_address a b = bytes_eq a.ip b.ip && (a.port == b.port)

-- some node has the id or the address
abbrev pub is_used : ℕ → Address → World → Bool
is_used id addr world = list_any (λ (n : Node). (n.own.id == id) || same_address n.own.addr addr) world.nodes

-- the node is started
abbrev pub started : World → Node → After
started world node = record {
  world = record world { nodes = world.nodes ++ node ∷ [] };
  lines = (codes "up " ++ decimal node.own.id) ∷ [];
}

-- a node at its start in a state, which logs how it started
abbrev pub begun : Own → State → Node
begun own state =
    record { own = own; state = Some state; entries = entries.Boot own ∷ []; tail = []; armed = None }

-- who the leader is that is started with these values
abbrev pub own_leader : ℕ → Address → Axes → Own
own_leader id addr at = record { id = id; addr = addr; at = at; mode = modes.Full; leader = id; leader_addr = addr }

-- who another node is, under a leader
abbrev pub own_under : Own → ℕ → Address → Axes → Mode → Own
own_under leader id addr at mode =
    record { id = id; addr = addr; at = at; mode = mode; leader = leader.id; leader_addr = leader.addr }

-- a leader starts where there is none
abbrev pub led : World → Option Node → ℕ → Address → Axes → After
led world (Some leader) id addr at = answer world (codes "second leader")
led world None id addr at = started world (begun (own_leader id addr at) (Leading 0 []))

-- another node starts where there is a leader
abbrev pub booted : World → Option Node → ℕ → Address → Axes → Mode → After
booted world None id addr at mode = answer world (codes "no leader")
booted world (Some leader) id addr at mode =
    started world (begun (own_under leader.own id addr at mode) Joining)

-- a node in a state is told to join: a joining one asks the leader
abbrev pub join_as : World → Node → State → After
join_as world node Joining = commit world node (join_step node.own)
join_as world node (Following m) = answer world (codes "member")
join_as world node (Leading epoch pending) = answer world (codes "member")
join_as world node Left = answer world (codes "departed")

-- whether a node has the id or none
abbrev pub join_at : World → Option Node → After
join_at world None = answer world (codes "no node")
join_at world (Some node) = unless_down world (join_as world node) node.state

-- a call that members alone have
abbrev pub member_as : World → Node → (Membership → Step) → State → After
member_as world node step Joining = answer world (codes "joining")
member_as world node step (Following m) = commit world node (step m)
member_as world node step (Leading epoch pending) = answer world (codes "leader")
member_as world node step Left = answer world (codes "departed")

-- whether a node has the id or none
abbrev pub member_at : World → (Contents → Own → Membership → Step) → Option Node → After
member_at world step None = answer world (codes "no node")
member_at world step (Some node) =
    unless_down world (member_as world node (step (contents_of world) node.own)) node.state

-- a node in a state is told to close: the leader does
abbrev pub close_as : World → Node → State → After
close_as world node (Leading epoch pending) =
    commit world node (close_step (contents_of world) node.own.id epoch pending)
close_as world node state = answer world (codes "no leader")

-- whether there is a leader or none
abbrev pub close_at : World → Option Node → After
close_at world None = answer world (codes "no leader")
close_at world (Some node) = unless_down world (close_as world node) node.state

-- what a node in a state prints
abbrev pub print_lines : Contents → State → List (List ℕ)
print_lines c Joining = codes "joining" ∷ []
print_lines c (Following m) = block_lines (view_at c m.epoch m.known)
print_lines c (Leading epoch pending) = block_lines (whole_view c epoch)
print_lines c Left = codes "departed" ∷ []

-- a node in a state prints
abbrev pub print_as : World → State → After
print_as world state = record { world = world; lines = print_lines (contents_of world) state }

-- whether a node has the id or none
abbrev pub print_at : World → Option Node → After
print_at world None = answer world (codes "no node")
print_at world (Some node) = unless_down world (print_as world) node.state

-- a node crashes: its state is lost, and its log stays
abbrev pub crashed : World → Node → After
crashed world node = record {
  world = with_node node.own.id (λ (n : Node). record n { state = None }) world;
  lines = (codes "down " ++ decimal node.own.id) ∷ [];
}

-- whether a node has the id or none
abbrev pub crash_at : World → Option Node → After
crash_at world None = answer world (codes "no node")
crash_at world (Some node) = unless_down world (λ state. crashed world node) node.state

-- how a node says what it came back as
abbrev pub restart_line : State → List ℕ
restart_line Joining = codes "joining"
restart_line (Following m) = codes "member " ++ decimal m.epoch
restart_line (Leading epoch pending) = codes "leader " ++ decimal epoch
restart_line Left = codes "departed"

-- a node comes back: it is what its log's entries lead to, and the bytes that were torn are cut off
abbrev pub came_back : World → Node → After
came_back world node =
    let state : State = restored (contents_of world) node.own node.entries in
    record {
      world = with_node node.own.id (λ (n : Node). record n { state = Some state; tail = [] }) world;
      lines = restart_line state ∷ [];
    }

-- only one that is down
abbrev pub restart_as : World → Node → Option State → After
restart_as world node None = came_back world node
restart_as world node (Some state) = answer world (codes "up")

-- whether a node has the id or none
abbrev pub restart_at : World → Option Node → After
restart_at world None = answer world (codes "no node")
restart_at world (Some node) = restart_as world node node.state

-- the next write of a node, in whatever state it is, is to tear after so many bytes
abbrev pub tear_at : World → ℕ → Option Node → After
tear_at world b None = answer world (codes "no node")
tear_at world b (Some node) = record {
  world = with_node node.own.id (λ (n : Node). record n { armed = Some b }) world;
  lines = (codes "armed " ++ decimal b) ∷ [];
}

-- bytes that come to a node and are none of its packets leave everything as it is
abbrev pub noise_at : World → Option Node → After
noise_at world None = answer world (codes "no node")
noise_at world (Some node) = record { world = world; lines = [] }

-- another node is started
abbrev pub boot_in : World → ℕ → Address → Axes → Mode → After
boot_in world id addr at mode =
    if is_used id addr world then answer world (codes "taken") else booted world (leader_of world) id addr at mode

-- a node in a state is told to ask another: a joining one asks its leader alone
abbrev pub ask_as : World → Node → ℕ → State → After
ask_as world node to Joining =
    if to == node.own.leader then commit world node (ask_leader_step node.own)
    else answer world (codes "unknown " ++ decimal to)
ask_as world node to (Following m) = commit world node (ask_step (contents_of world) node.own to m)
ask_as world node to (Leading epoch pending) = answer world (codes "leader")
ask_as world node to Left = answer world (codes "departed")

-- whether a node has the id or none
abbrev pub ask_at : World → ℕ → Option Node → After
ask_at world to None = answer world (codes "no node")
ask_at world to (Some node) = unless_down world (ask_as world node to) node.state

-- an event happens in a world. Some are for a node that runs alone
abbrev pub happens : World → Event → After
happens world (events.Lead id addr at) =
    if is_used id addr world then answer world (codes "taken") else led world (leader_of world) id addr at
happens world (events.Boot id addr at mode) = boot_in world id addr at mode
happens world (events.Home id addr) = answer world (codes "not here")
happens world (events.Join id) = join_at world (node_of world id)
happens world (events.Leave id) = member_at world leave_step (node_of world id)
happens world (events.Flush id) =
    member_at world (λ c own m. flush_step own m m.pending) (node_of world id)
happens world (events.Move id at) = member_at world (λ c own m. move_step c own at m) (node_of world id)
happens world events.Close = close_at world (leader_of world)
happens world (events.Ask id to) = ask_at world to (node_of world id)
happens world (events.Need id to region) =
    member_at world (λ c own m. need_step c own to region m) (node_of world id)
happens world (events.Deliver number) = deliver_at world number
happens world (events.Lose number) = lost world number (sent_at world number)
happens world (events.Settle most) = settled world most
happens world (events.Packet id bytes) = answer world (codes "not here")
happens world (events.Noise id size) = noise_at world (node_of world id)
happens world (events.Crash id) = crash_at world (node_of world id)
happens world (events.Restart id) = restart_at world (node_of world id)
happens world (events.Tear id b) = tear_at world b (node_of world id)
happens world (events.Print id) = print_at world (node_of world id)
