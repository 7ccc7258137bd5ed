-- The leader closes an epoch: the first pending changes are judged, the accepted ones are logged, and members are
-- told, joiners by a snapshot and the others by the pieces of their region's slice.
use Rattle.std.specs.Prelude.{ℕ, ◌+◌, ◌==◌, List, ◌++◌, map, take, drop, Option, None, Some}
use Rattle.std.specs.Prelude.{if◌then◌else◌}
use Rattle.std.specs.List.{flat_map, range_with_len}
use Rattle.cs_base.specs.Limits.{colours, last_number, most_changes}
use Rattle.cs_base.specs.declared.change.Change.{Change}
use Rattle.cs_base.specs.declared.change.Mode.TheVariants.{Partial}
use Rattle.cs_base.specs.declared.member.Member.{Member}
use Rattle.cs_group.specs.Group.{GroupState}
use Rattle.cs_group.specs.Judging.{accepted}
use Rattle.cs_group.specs.Next.{next_turn}
use Rattle.cs_group.specs.Rows.{regions}
use Rattle.cs_group.specs.declared.next.Turn.{Turn}
use Rattle.cs_item.specs.declared.picture.Picture.{Picture}
use Rattle.cs_lead.specs.Closing.{begins_anew}
use Rattle.cs_node.specs.declared.note.Note.TheVariants as notes
use Rattle.cs_slicer.specs.Joiners.{joiners}
use Rattle.cs_slicer.specs.Projection.{known_by}
use Rattle.cs_tree.specs.Start.{start}
use Rattle.cs_machine.specs.Contents.{Contents, view_at}
use Rattle.cs_machine.specs.Entries as entries
use Rattle.cs_machine.specs.Names.{Leading, Name, Snap}
use Rattle.cs_machine.specs.Step.{Step, piece_sends, quiet}

-- a snapshot of a group for one of its members, with the roll of the member's region
abbrev pub snapshot_for : ℕ → GroupState → Member → ℕ × Name
snapshot_for epoch group m = (m.id, Snap epoch (known_by m.id Partial group.rows (regions group.rows)))

-- what the leader sees of an epoch: all of the group
abbrev pub whole_view : Contents → ℕ → Picture
whole_view c epoch = view_at c epoch (regions (c.group epoch).rows)

-- a piece of the next epoch goes to whom it starts at
abbrev pub start_sends : ℕ → ℕ → Picture → ℕ → ℕ → List (ℕ × Name)
start_sends me epoch view region colour =
    piece_sends epoch region colour (start me view.summaries view.rolls region colour)

-- the pieces of a region, by ascending colour
abbrev pub region_sends : ℕ → ℕ → Picture → ℕ → List (ℕ × Name)
region_sends me epoch view region = flat_map (start_sends me epoch view region) (range_with_len 0 colours)

-- the epoch is closed by a turn of the group, which makes the item. Without a turn no number is left for a region
abbrev pub turn_step : Contents → ℕ → ℕ → List Change → Option Turn → Step
turn_step c me epoch pending None = quiet (Leading epoch pending) notes.Spent
turn_step c me epoch pending (Some turn) = record {
  state = Leading (epoch + 1) (drop most_changes pending);
  entry = Some (entries.Item (epoch + 1) (accepted turn.verdicts) (begins_anew epoch));
  note = notes.Closed (epoch + 1) turn.verdicts;
  sends = map (snapshot_for (epoch + 1) turn.group) (joiners turn.item)
      ++ flat_map (region_sends me (epoch + 1) (whole_view c epoch)) (regions (c.group epoch).rows);
}

-- the leader closes the epoch, unless it is the last: as many pending changes as one close takes are judged
abbrev pub close_step : Contents → ℕ → ℕ → List Change → Step
close_step c me epoch pending =
    if epoch == last_number then quiet (Leading epoch pending) notes.Spent
    else turn_step c me epoch pending (next_turn (c.group epoch) (take most_changes pending))
