-- One event of a node that runs alone: what is there then, and the lines of its answer and of the packets that it
-- sends. What the node does is what it decides, on values; that is defined where nodes are.
use Rattle.std.specs.Prelude.{ℕ, ◌+◌, ◌==◌, Bool, false, nat_le, List, [], ◌∷◌, ◌++◌, length, take}
use Rattle.std.specs.Prelude.{Option, None, Some, codes, decimal, if◌then◌else◌}
use Rattle.std.specs.Option.{option_and_then, option_map, option_map_or}
use Rattle.cs_base.specs.declared.change.Mode.{Mode}
use Rattle.cs_base.specs.declared.change.Mode.TheVariants.{Full}
use Rattle.cs_base.specs.declared.member.Member.{Member}
use Rattle.cs_core.specs.Node.{Following as Membership, Node as Follower}
use Rattle.cs_machine.specs.Lines.{note_lines}
use Rattle.cs_node.specs.Appending.{entry_frame}
use Rattle.cs_node.specs.Calls.{node_after}
use Rattle.cs_node.specs.Effects.{on_bytes}
use Rattle.cs_node.specs.Node.{view_of}
use Rattle.cs_node.specs.declared.effects.Effects.{Effects}
use Rattle.cs_node.specs.declared.folding.Folded.{Folded}
use Rattle.cs_node.specs.declared.folding.Folded.TheVariants.{Gives}
use Rattle.cs_node.specs.declared.node.Node.{Node}
use Rattle.cs_node.specs.declared.node.Node.TheVariants as nodes
use Rattle.cs_packet.specs.declared.entry.Entry.{Entry}
use Rattle.cs_packet.specs.declared.own.Own.{Own}
use Rattle.cs_script.specs.declared.event.Event.{Event}
use Rattle.cs_script.specs.declared.event.Event.TheVariants as events
use Rattle.cs_show.specs.Block.{block_lines}
use Rattle.cs_world.specs.Alone.{Alone, OneNode, given_by, node_named, starting}
use Rattle.cs_world.specs.Calls.{effects_at, refusal_word, refused}
use Rattle.cs_world.specs.Events.{action_for}
use Rattle.cs_world.specs.Posting.{sent_lines}
use Rattle.cs_world.specs.Shown.{viewless_word}
use Rattle.cs_world.specs.declared.action.Action.{Action}
use Rattle.cs_world.specs.declared.action.Action.TheVariants as actions
use Rattle.cs_world.specs.declared.call.Call.{Call}
use Rattle.cs_world.specs.declared.call.Call.TheVariants as calls
use Rattle.cs_world.specs.declared.call.Refusal.{Refusal}
use Rattle.cs_world.specs.declared.home.Home.{Home}
use Rattle.cs_world.specs.declared.telling.Telling.TheVariants.{Bytes}

-- what an event leads to
pub record AfterAlone : Type 0 where
  pub alone : Alone
  pub lines : List (List ℕ)

-- all stays as it is
abbrev pub says : Alone → List ℕ → AfterAlone
says alone line = record { alone = alone; lines = line ∷ [] }

-- the node is this one now
abbrev pub becomes : Alone → OneNode → List (List ℕ) → AfterAlone
becomes alone n lines = record { alone = record alone { node = Some n }; lines = lines }

-- ---- a decision is carried out

-- an entry, or none, as a list
abbrev pub logged : Option Entry → List Entry
logged None = []
logged (Some entry) = entry ∷ []

-- a node after what it decided: the entry stands behind its others, and the packets behind those that it had sent
abbrev pub after_effects : Node → Effects → OneNode → OneNode
after_effects node effects n = record n {
  node = Some (node_after node effects);
  entries = n.entries ++ logged effects.entry;
  sent = n.sent ++ effects.sends;
}

-- its answer, and then the packets, which are numbered on
abbrev pub acted_lines : OneNode → Effects → List (List ℕ)
acted_lines n effects = note_lines effects.note ++ sent_lines Bytes (length n.sent + 1) effects.sends

-- a node whose write was torn is down: with the entry, where the number is enough for its frame, and else with the
-- first bytes of it. Nothing is armed any more
abbrev pub torn_at : Entry → ℕ → OneNode → OneNode
torn_at entry b n =
    if nat_le (length (entry_frame entry)) b
    then record n { node = None; entries = n.entries ++ entry ∷ []; armed = None }
    else record n { node = None; tail = take b (entry_frame entry); armed = None }

-- the entry whose write is torn, and after how many bytes, where one is logged and a number is armed
abbrev pub torn_write : Option Entry → Option ℕ → Option (Entry × ℕ)
torn_write entry armed = option_and_then (λ e. option_map (λ b. (e, b)) armed) entry

-- where there is none, the node acts; else its write is torn, and nothing is sent
abbrev pub unless_torn : Alone → OneNode → Node → Effects → Option (Entry × ℕ) → AfterAlone
unless_torn alone n node effects None = becomes alone (after_effects node effects n) (acted_lines n effects)
unless_torn alone n node effects (Some tear) = becomes alone (torn_at tear.0 tear.1 n) (codes "stopped log" ∷ [])

-- what a node decided is carried out
abbrev pub carried_out : Alone → OneNode → Node → Effects → AfterAlone
carried_out alone n node effects = unless_torn alone n node effects (torn_write effects.entry n.armed)

-- ---- actions

-- a node refuses a call, or does what it decides
abbrev pub unless_refused : Alone → OneNode → Node → Call → Option Refusal → AfterAlone
unless_refused alone n node call (Some refusal) = says alone (refusal_word refusal)
unless_refused alone n node call None = carried_out alone n node (effects_at node call)

-- one that is down says so
abbrev pub called : Alone → OneNode → Call → Option Node → AfterAlone
called alone n call None = says alone (codes "down")
called alone n call (Some node) = unless_refused alone n node call (refused node call)

-- a node crashes: what it is is lost, and its log stays
abbrev pub crashed : Alone → OneNode → Option Node → AfterAlone
crashed alone n None = says alone (codes "down")
crashed alone n (Some node) = becomes alone (record n { node = None }) ((codes "down " ++ decimal n.own.id) ∷ [])

-- how a node that isn't the leader says what it came back as
abbrev pub follower_word : Follower → List ℕ
follower_word f =
    option_map_or (λ (m : Membership). codes "member " ++ decimal m.view.epoch) f.following (codes "joining")

-- and any node
abbrev pub back_word : Node → List ℕ
back_word (nodes.Follower f) = follower_word f
back_word (nodes.Leader leader) = codes "leader " ++ decimal leader.view.epoch
back_word nodes.Left = codes "departed"

-- a node comes back as what its log gives, and the torn bytes are cut off. Where the log gives none, it stays down
abbrev pub came_back : Alone → OneNode → Folded → AfterAlone
came_back alone n (Gives node) = becomes alone (record n { node = Some node; tail = [] }) (back_word node ∷ [])
came_back alone n folded = says alone (codes "stopped log")

-- a restart: one that is down comes back, and one that is up says so
abbrev pub restarted_as : Alone → OneNode → Option Node → AfterAlone
restarted_as alone n None = came_back alone n (given_by n)
restarted_as alone n (Some node) = says alone (codes "up")

-- an action on the node
abbrev pub does : Alone → Action → OneNode → AfterAlone
does alone (actions.Call call) n = called alone n call n.node
does alone actions.Crash n = crashed alone n n.node
does alone actions.Restart n = restarted_as alone n n.node
does alone (actions.Arm b) n = becomes alone (record n { armed = Some b }) ((codes "armed " ++ decimal b) ∷ [])

-- there is no such node, or it does so
abbrev pub does_if : Alone → Action → Option OneNode → AfterAlone
does_if alone action None = says alone (codes "no node")
does_if alone action (Some n) = does alone action n

-- an action on the node with the id
abbrev pub acts : Alone → ℕ → Action → AfterAlone
acts alone id action = does_if alone action (node_named alone id)

-- ---- lines that say no action

-- a line says who leads, before there is a node
abbrev pub at_home : Alone → Home → Option Home → Option OneNode → AfterAlone
at_home alone home None None =
    record { alone = record alone { home = Some home }; lines = (codes "home " ++ decimal home.id) ∷ [] }
at_home alone home there n = says alone (codes "taken")

-- who a member is under a leader
abbrev pub own_of : Home → Member → Mode → Own
own_of home me mode = record {
  id = me.id;
  addr = me.addr;
  at = me.at;
  mode = mode;
  leader = home.id;
  leader_addr = home.addr;
}

-- the one node is started
abbrev pub starts : Alone → Own → AfterAlone
starts alone own = becomes alone (starting own) ((codes "up " ++ decimal own.id) ∷ [])

-- as a leader, where no node was started
abbrev pub leads : Alone → Member → Option OneNode → AfterAlone
leads alone me None = starts alone (own_of (record { id = me.id; addr = me.addr }) me Full)
leads alone me (Some n) = says alone (codes "taken")

-- under a leader that was told, whose id it doesn't have
abbrev pub boots_under : Alone → Member → Mode → Option Home → AfterAlone
boots_under alone me mode None = says alone (codes "no leader")
boots_under alone me mode (Some home) =
    if home.id == me.id then says alone (codes "taken") else starts alone (own_of home me mode)

-- so it starts where no node was started
abbrev pub boots : Alone → Member → Mode → Option OneNode → AfterAlone
boots alone me mode None = boots_under alone me mode alone.home
boots alone me mode (Some n) = says alone (codes "taken")

-- a node that is up closes its epoch, where it leads
abbrev pub closes : Alone → OneNode → Option Node → AfterAlone
closes alone n None = says alone (codes "no leader")
closes alone n (Some node) = called alone n calls.Close (Some node)

-- a close, whether there is a node or none
abbrev pub closes_if : Alone → Option OneNode → AfterAlone
closes_if alone None = says alone (codes "no leader")
closes_if alone (Some n) = closes alone n n.node

-- whether this is who leads, as a line said it
abbrev pub is_leader : Alone → ℕ → Bool
is_leader alone id = option_map_or (λ (home : Home). home.id == id) alone.home false

-- bytes come to the node
abbrev pub receives : Alone → List ℕ → OneNode → Option Node → AfterAlone
receives alone bytes n None = says alone (codes "down")
receives alone bytes n (Some node) = carried_out alone n node (on_bytes node bytes)

-- bytes come, whether there is a node or none
abbrev pub receives_if : Alone → List ℕ → Option OneNode → AfterAlone
receives_if alone bytes None = says alone (codes "no node")
receives_if alone bytes (Some n) = receives alone bytes n n.node

-- the block of a node with a view, and else a word
abbrev pub printed : Option Node → List (List ℕ)
printed node = option_map_or block_lines (option_and_then view_of node) (viewless_word node ∷ [])

-- the node prints
abbrev pub prints : Alone → Option OneNode → AfterAlone
prints alone None = says alone (codes "no node")
prints alone (Some n) = record { alone = alone; lines = printed n.node }

-- ---- any line

-- a line that says an action on the node; any other is for many nodes
abbrev pub by_action : Alone → Option (ℕ × Action) → AfterAlone
by_action alone None = says alone (codes "not here")
by_action alone (Some (id, action)) = acts alone id action

-- an event happens to a node that runs alone
abbrev pub happens_alone : Alone → Event → AfterAlone
happens_alone alone (events.Home id addr) = at_home alone (record { id = id; addr = addr }) alone.home alone.node
happens_alone alone (events.Lead id addr at) = leads alone (record { id = id; addr = addr; at = at }) alone.node
happens_alone alone (events.Boot id addr at mode) =
    boots alone (record { id = id; addr = addr; at = at }) mode alone.node
happens_alone alone events.Close = closes_if alone alone.node
happens_alone alone (events.Ask id to) = acts alone id (actions.Call (calls.Ask to (is_leader alone to)))
happens_alone alone (events.Packet id bytes) = receives_if alone bytes (node_named alone id)
happens_alone alone (events.Print id) = prints alone (node_named alone id)
happens_alone alone event = by_action alone (action_for event)
