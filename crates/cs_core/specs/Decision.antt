-- What a node decides: the plan on a call, for any node and any bytes.
use Rattle.std.specs.Prelude.{◌≡◌, ℕ, ◌==◌, List, [], ◌∷◌, Option, Some, None, IsSome, ⊤, Result, Ok, Err}
use Rattle.std.specs.Prelude.{if◌then◌else◌}
use Rattle.cs_base.specs.declared.change.Change.TheVariants as changes
use Rattle.cs_fields.specs.declared.fault.PacketFault.{PacketFault}
use Rattle.cs_packet.specs.Own.{member_of_own}
use Rattle.cs_packet.specs.PacketField.{packet_of}
use Rattle.cs_packet.specs.declared.entry.Entry.TheVariants as entries
use Rattle.cs_packet.specs.declared.own.Own.{Own}
use Rattle.cs_packet.specs.declared.packet.Body.{Body}
use Rattle.cs_packet.specs.declared.packet.Body.TheVariants.{Report, Piece, Need, Slice, Ask, Snap, Bye}
use Rattle.cs_packet.specs.declared.packet.Packet.{Packet}
use Rattle.cs_core.specs.Addresses.{send_leader}
use Rattle.cs_core.specs.Asking.{ask_answer, ask_plan, need_answer, need_plan}
use Rattle.cs_core.specs.Changes.{flush_plan, leave_plan, move_plan, report_plan}
use Rattle.cs_core.specs.Node.{Following, Node}
use Rattle.cs_core.specs.Pieces.{piece_plan, slice_plan}
use Rattle.cs_core.specs.Plans.{only, sent}
use Rattle.cs_core.specs.Snapshots.{first_snap_plan, snap_plan}
use Rattle.cs_core.specs.declared.plan.Call.{Call}
use Rattle.cs_core.specs.declared.plan.Call.TheVariants as calls
use Rattle.cs_core.specs.declared.plan.FollowNote.TheVariants as notes
use Rattle.cs_core.specs.declared.plan.Outcome.TheVariants as outcomes
use Rattle.cs_core.specs.declared.plan.Plan.{Plan}

-- the node is told that it is no member
abbrev pub bye_plan : ℕ → Plan
bye_plan epoch = record { entry = Some (entries.Gone epoch); sends = []; note = notes.Departed; after = outcomes.Gone }

-- a joining node asks the leader to let it in
abbrev pub join_plan : Own → Plan
join_plan own = sent (send_leader own (Report (changes.Join (member_of_own own) ∷ []))) (notes.Told None)

-- a joining node asks the leader for a snapshot of any epoch
abbrev pub ask_leader_plan : Own → Plan
ask_leader_plan own = sent (send_leader own (Ask own.addr own.mode 0)) (notes.Told None)

-- what a member makes of a packet from another node
abbrev pub member_plan : Own → Following → ℕ → Body → Plan
member_plan own m from (Report changes) = report_plan own m changes
member_plan own m from (Piece epoch region colour bytes) =
    piece_plan own m (record { epoch = epoch; region = region; colour = colour; bytes = bytes })
member_plan own m from (Need addr mode epoch region) = need_answer own m from addr mode epoch region
member_plan own m from (Slice slice) = slice_plan own m slice
member_plan own m from (Ask addr mode least) = ask_answer own m from addr mode least
member_plan own m from (Snap picture) = snap_plan own m picture
member_plan own m from (Bye epoch) = bye_plan epoch

-- and a joining node, which has a use for two kinds alone
abbrev pub joining_plan : Own → Body → Plan
joining_plan own (Report changes) = only notes.Idle
joining_plan own (Piece epoch region colour bytes) = only notes.Idle
joining_plan own (Need addr mode epoch region) = only notes.Idle
joining_plan own (Slice slice) = only notes.Idle
joining_plan own (Ask addr mode least) = only notes.Idle
joining_plan own (Snap picture) = first_snap_plan own picture
joining_plan own (Bye epoch) = bye_plan epoch

abbrev pub body_plan : Own → Option Following → ℕ → Body → Plan
body_plan own None from body = joining_plan own body
body_plan own (Some m) from body = member_plan own m from body

-- the plan on a packet, which has to be for this node
abbrev pub packet_plan : Node → Packet → Plan
packet_plan node packet =
    if packet.to == node.own.id then body_plan node.own node.following packet.from packet.body
    else only (notes.NotMine packet.to)

-- the plan on bytes: on the packet that they spell, or the answer with their first fault
abbrev pub bytes_plan : Node → Result Packet PacketFault → Plan
bytes_plan node (Ok packet) = packet_plan node packet
bytes_plan node (Err fault) = only (notes.Bad fault)

-- the calls of a joining node
abbrev pub joining_call : Own → Call → Plan
joining_call own calls.Join = join_plan own
joining_call own calls.AskLeader = ask_leader_plan own
joining_call own (calls.Moved at) = only notes.Idle
joining_call own calls.Leave = only notes.Idle
joining_call own calls.Flush = only notes.Idle
joining_call own (calls.Ask to) = only notes.Idle
joining_call own (calls.Need to region) = only notes.Idle
joining_call own (calls.Deliver bytes) = bytes_plan (record { own = own; following = None }) (packet_of bytes.now)

-- the calls of a member
abbrev pub member_call : Own → Following → Call → Plan
member_call own m calls.Join = only notes.Idle
member_call own m calls.AskLeader = only notes.Idle
member_call own m (calls.Moved at) = move_plan own m at
member_call own m calls.Leave = leave_plan own m
member_call own m calls.Flush = flush_plan own m m.pending
member_call own m (calls.Ask to) = ask_plan own m to
member_call own m (calls.Need to region) = need_plan own m to region
member_call own m (calls.Deliver bytes) = bytes_plan (record { own = own; following = Some m }) (packet_of bytes.now)

-- the plan on a call
abbrev pub plan_of : Own → Option Following → Call → Plan
plan_of own None call = joining_call own call
plan_of own (Some m) call = member_call own m call

-- a joining node and a member have the call
abbrev pub HasCall : Option Following → Call → Type 0
HasCall following calls.Join = following ≡ None
HasCall following calls.AskLeader = following ≡ None
HasCall following (calls.Moved at) = IsSome following
HasCall following calls.Leave = IsSome following
HasCall following calls.Flush = IsSome following
HasCall following (calls.Ask to) = IsSome following
HasCall following (calls.Need to region) = IsSome following
HasCall following (calls.Deliver bytes) = ⊤
