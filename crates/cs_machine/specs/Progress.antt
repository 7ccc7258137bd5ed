-- What a member does with what it gained: it passes it on, and goes to the next epoch where it holds the slices that
-- it needs.
use Rattle.std.specs.Prelude.{ℕ, ◌+◌, List, [], Option, None, Some, if◌then◌else◌}
use Rattle.std.specs.List.{filter, flat_map}
use Rattle.cs_base.specs.Ascending.{placed_by}
use Rattle.cs_group.specs.Group.{is_among}
use Rattle.cs_node.specs.declared.note.Note.TheVariants as notes
use Rattle.cs_packet.specs.declared.own.Own.{Own}
use Rattle.cs_slicer.specs.Head.{left_in, touched_in}
use Rattle.cs_slicer.specs.Projection.{image}
use Rattle.cs_machine.specs.Contents.{Contents}
use Rattle.cs_machine.specs.Entries as entries
use Rattle.cs_machine.specs.Held.{Gain, are_whole, least_whole}
use Rattle.cs_machine.specs.Names.{Following, Left, Membership, Name}
use Rattle.cs_machine.specs.Step.{Step, passed_on}

-- the pieces that became held are passed on
abbrev pub gain_sends : Contents → Own → Membership → Gain → List (ℕ × Name)
gain_sends c own m gain = flat_map (passed_on c own.id m.epoch m.known (m.epoch + 1) gain.region) gain.colours

-- the regions whose slices a member needs where w is the least whole one: its own, and those of the known regions that
-- the next item touches
abbrev pub needed : Contents → Membership → ℕ → List ℕ
needed c m w =
    placed_by (λ region. region) w (filter (is_among m.known) (touched_in (c.group m.epoch) (c.turn (m.epoch + 1))))

-- the member holds what came, and waits for more
abbrev pub holds : Contents → Own → Membership → Gain → Step
holds c own m gain = record {
  state = Following (record m { held = gain.held });
  entry = None;
  note = notes.Held;
  sends = gain_sends c own m gain;
}

-- the member of the next epoch, which used the slices of these regions. Its past has all that it held
abbrev pub stepped : Contents → Own → Membership → Gain → List ℕ → Membership
stepped c own m gain used = record {
  epoch = m.epoch + 1;
  known = image (c.group m.epoch) (c.turn (m.epoch + 1)) m.known own.id own.mode;
  held = [];
  used = used;
  pending = m.pending;
  seq = m.seq;
  past = Some (record { known = m.known; had = gain.held });
}

abbrev pub advances : Contents → Own → Membership → Gain → List ℕ → Step
advances c own m gain used = record {
  state = Following (stepped c own m gain used);
  entry = Some (entries.Step (m.epoch + 1) used);
  note = notes.Advanced (m.epoch + 1);
  sends = gain_sends c own m gain;
}

-- the next item retires the node
abbrev pub departs : Contents → Own → Membership → Gain → Step
departs c own m gain = record {
  state = Left;
  entry = Some (entries.Gone (m.epoch + 1));
  note = notes.Departed;
  sends = gain_sends c own m gain;
}

-- the member goes on by the slices of these regions
abbrev pub goes_on : Contents → Own → Membership → Gain → List ℕ → Step
goes_on c own m gain used =
    if is_among (left_in (c.group m.epoch) (c.group (m.epoch + 1))) own.id then departs c own m gain
    else advances c own m gain used

-- where a region is whole, or none is
abbrev pub progress : Contents → Own → Membership → Gain → Option ℕ → Step
progress c own m gain None = holds c own m gain
progress c own m gain (Some w) =
    if are_whole gain.held (needed c m w) then goes_on c own m gain (needed c m w) else holds c own m gain

-- what a member does with what it gained
abbrev pub gain_step : Contents → Own → Membership → Gain → Step
gain_step c own m gain = progress c own m gain (least_whole gain.held)
