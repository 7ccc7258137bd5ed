-- The close of an epoch: the first pending changes are judged, the accepted ones are the item, which is logged, and
-- then members are told: each joiner by a snapshot of the new epoch, the others by the pieces of their region's slice.
use Rattle.std.specs.Prelude.{ℕ, ◌+◌, ◌%◌, ◌==◌, ◌&&◌, nat_lt, Bool, List, ◌++◌, map, take, drop}
use Rattle.std.specs.Prelude.{Option, None, Some, if◌then◌else◌}
use Rattle.std.specs.List.{flat_map, range_with_len}
use Rattle.cs_base.specs.Address.{Address}
use Rattle.cs_base.specs.Limits.{colours, last_number, most_changes}
use Rattle.cs_base.specs.declared.change.Change.{Change}
use Rattle.cs_base.specs.declared.change.Mode.TheVariants.{Partial}
use Rattle.cs_base.specs.declared.member.Member.{Member}
use Rattle.cs_group.specs.Group.{GroupState}
use Rattle.cs_group.specs.Next.{next_turn}
use Rattle.cs_group.specs.Rows.{regions}
use Rattle.cs_group.specs.declared.next.Turn.{Turn}
use Rattle.cs_item.specs.SliceField.{slice_bytes}
use Rattle.cs_item.specs.declared.picture.Picture.{Picture}
use Rattle.cs_item.specs.declared.slice.Slice.{Slice}
use Rattle.cs_packet.specs.NamedPiece.{NamedPiece, piece_to}
use Rattle.cs_packet.specs.declared.entry.Entry.{Entry}
use Rattle.cs_packet.specs.declared.entry.Entry.TheVariants as entries
use Rattle.cs_packet.specs.declared.packet.Body.TheVariants as bodies
use Rattle.cs_packet.specs.declared.packet.Packet.{Packet}
use Rattle.cs_piece.specs.Blocks.{piece_of}
use Rattle.cs_slicer.specs.Joiners.{joiners}
use Rattle.cs_slicer.specs.Projection.{known_by, projection}
use Rattle.cs_tree.specs.Start.{start}
use Rattle.cs_lead.specs.Leading.{Leading, after_turn, all_slices}
use Rattle.cs_lead.specs.Plans.{only}
use Rattle.cs_lead.specs.declared.plan.LeadNote.TheVariants as notes
use Rattle.cs_lead.specs.declared.plan.LeadOutcome.TheVariants as outcomes
use Rattle.cs_lead.specs.declared.plan.LeadPlan.{LeadPlan}

-- a snapshot of a group for one of its members, with the roll of the member's region
abbrev pub snapshot_to : ℕ → ℕ → GroupState → Member → Address × Packet
snapshot_to me epoch group member =
    let known = known_by member.id Partial group.rows (regions group.rows) in
    (member.addr, record { from = me; to = member.id; body = bodies.Snap (projection epoch known group) })

-- the piece of a slice that has the colour
abbrev pub piece_of_slice : Slice → ℕ → NamedPiece
piece_of_slice slice colour = record {
  epoch = slice.head.epoch;
  region = slice.part.region;
  colour = colour;
  bytes = piece_of (slice_bytes slice) colour;
}

-- it starts by the view from before
abbrev pub started : ℕ → Picture → NamedPiece → List (Address × Packet)
started me view piece =
    map (piece_to me piece) (start me view.summaries view.rolls piece.region piece.colour)

-- all pieces of a slice, by ascending colour
abbrev pub slice_sends : ℕ → Picture → Slice → List (Address × Packet)
slice_sends me view slice =
    flat_map (λ colour. started me view (piece_of_slice slice colour)) (range_with_len 0 colours)

-- the packets of a close: the snapshots by ascending joiner, and then the pieces by ascending region
abbrev pub close_sends : Leading → Turn → List (Address × Packet)
close_sends leader turn =
    let epoch = leader.view.epoch + 1 in
    map (snapshot_to leader.me.id epoch turn.group) (joiners turn.item)
    ++ flat_map (slice_sends leader.me.id leader.view) (all_slices leader.group turn epoch)

-- after so many epochs a close logs the group, and with it the log begins anew
abbrev pub epochs_between : ℕ
epochs_between = 16

-- whether the close of this epoch does
abbrev pub begins_anew : ℕ → Bool
begins_anew epoch = nat_lt 0 epoch && (epoch % epochs_between == 0)

-- what a close logs: the accepted changes, and the group before them where the log begins anew
abbrev pub turn_entry : Leading → Turn → Entry
turn_entry leader turn =
    let before = leader.group in
    let epoch = leader.view.epoch + 1 in
    if begins_anew leader.view.epoch
    then entries.Base epoch before.next_region before.retired before.rows turn.item
    else entries.Item epoch turn.item

-- the epoch is closed by a turn, with these changes left
abbrev pub turn_plan : Leading → List Change → Option Turn → LeadPlan
turn_plan leader pending None = only notes.Spent
turn_plan leader pending (Some turn) = record {
  entry = Some (turn_entry leader turn);
  sends = close_sends leader turn;
  note = notes.Closed (leader.view.epoch + 1) turn.verdicts;
  after = outcomes.Next (after_turn leader turn pending);
}

-- the epoch is closed, unless it is the last
abbrev pub close_plan : Leading → LeadPlan
close_plan leader =
    if leader.view.epoch == last_number then only notes.Spent
    else turn_plan leader (drop most_changes leader.pending)
    (next_turn leader.group (take most_changes leader.pending))
