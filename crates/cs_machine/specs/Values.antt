-- What a node's names stand for: the node itself, with its view, pieces and slices, and the entries of its log.
use Rattle.std.specs.Prelude.{ℕ, ◌+◌, ◌-◌, ◌==◌, Bool, List, map, if◌then◌else◌}
use Rattle.std.specs.Option.{option_map}
use Rattle.cs_core.specs.Node.{Following as Values, Past as PastValues, joining, member}
use Rattle.cs_group.specs.Group.{GroupState}
use Rattle.cs_hold.specs.Held.{Held}
use Rattle.cs_lead.specs.Leading.{Leading as Leader}
use Rattle.cs_node.specs.declared.node.Node.{Node as ANode}
use Rattle.cs_node.specs.declared.node.Node.TheVariants as nodes
use Rattle.cs_packet.specs.Own.{member_of_own}
use Rattle.cs_packet.specs.declared.entry.Entry.{Entry as AnEntry}
use Rattle.cs_packet.specs.declared.entry.Entry.TheVariants as logged
use Rattle.cs_packet.specs.declared.own.Own.{Own}
use Rattle.cs_machine.specs.Answers.{slices_of_leader}
use Rattle.cs_machine.specs.Closing.{whole_view}
use Rattle.cs_machine.specs.Contents.{Contents, piece_at, slice_at, view_at}
use Rattle.cs_machine.specs.Entries.{Entry}
use Rattle.cs_machine.specs.Entries as entries
use Rattle.cs_machine.specs.Names.{Following, Joining, Leading, Left, Membership, Past, State}
use Rattle.cs_base.specs.declared.change.Change.{Change}

-- a held piece of an epoch
abbrev pub held_for : Contents → ℕ → ℕ × ℕ → Held
held_for c epoch pair =
    record { region = pair.0; colour = pair.1; bytes = piece_at c epoch pair.0 pair.1 }

-- the past of a member of an epoch
abbrev pub past_for : Contents → ℕ → Past → PastValues
past_for c epoch past = record { view = view_at c (epoch - 1) past.known; had = past.had }

-- a member
abbrev pub member_for : Contents → Membership → Values
member_for c m = record {
  view = view_at c m.epoch m.known;
  held = map (held_for c (m.epoch + 1)) m.held;
  used = map (slice_at c m.epoch) m.used;
  pending = m.pending;
  seq = m.seq;
  past = option_map (past_for c m.epoch) m.past;
}

-- the leader at an epoch
abbrev pub leader_for : Contents → Own → ℕ → List Change → Leader
leader_for c own epoch pending = record {
  me = member_of_own own;
  group = c.group epoch;
  view = whole_view c epoch;
  slices = map (slice_at c epoch) (slices_of_leader c epoch);
  pending = pending;
}

-- a node in a state
abbrev pub node_for : Contents → Own → State → ANode
node_for c own Joining = nodes.Follower (joining own)
node_for c own (Following m) = nodes.Follower (member own (member_for c m))
node_for c own (Leading epoch pending) = nodes.Leader (leader_for c own epoch pending)
node_for c own Left = nodes.Left

-- the accepted changes of an epoch as they are logged: with the group before, where the log begins anew
abbrev pub item_for : GroupState → ℕ → List Change → Bool → AnEntry
item_for before epoch changes anew =
    if anew then logged.Base epoch before.next_region before.retired before.rows changes
    else logged.Item epoch changes

-- an entry of its log
abbrev pub entry_for : Contents → Entry → AnEntry
entry_for c (entries.Boot own) = logged.Boot (own.id == own.leader) own
entry_for c (entries.Seq seq at) = logged.Seq seq at
entry_for c (entries.View epoch regions) = logged.View (view_at c epoch regions)
entry_for c (entries.Step epoch used) = logged.Step (map (slice_at c epoch) used)
entry_for c (entries.Gone epoch) = logged.Gone epoch
entry_for c (entries.Item epoch changes anew) = item_for (c.group (epoch - 1)) epoch changes anew
