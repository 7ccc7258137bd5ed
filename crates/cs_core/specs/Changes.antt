-- Changes on their way to the leader: a node's own go to the reporter of its region, who hands on what is pending.
use Rattle.std.specs.Prelude.{ℕ, ◌+◌, ◌==◌, Bool, List, [], ◌∷◌, length, take, drop, Option, None, Some}
use Rattle.std.specs.Prelude.{if◌then◌else◌}
use Rattle.cs_base.specs.Address.{Address}
use Rattle.cs_base.specs.Axes.{Axes}
use Rattle.cs_base.specs.Limits.{last_id, most_changes}
use Rattle.cs_base.specs.declared.change.Change.{Change}
use Rattle.cs_base.specs.declared.change.Change.TheVariants.{Leave, Move}
use Rattle.cs_packet.specs.declared.entry.Entry.TheVariants as entries
use Rattle.cs_packet.specs.declared.own.Own.{Own}
use Rattle.cs_packet.specs.declared.packet.Body.TheVariants.{Report}
use Rattle.cs_packet.specs.declared.packet.Packet.{Packet}
use Rattle.cs_pending.specs.Counting.{all_offered}
use Rattle.cs_pending.specs.Pending.{after_offer, offer_of}
use Rattle.cs_pending.specs.declared.offer.Offer.{Offer}
use Rattle.cs_core.specs.Addresses.{reports_to, send_leader, send_to}
use Rattle.cs_core.specs.Node.{Following}
use Rattle.cs_core.specs.Plans.{goes_on, only}
use Rattle.cs_core.specs.declared.plan.FollowNote.TheVariants as notes
use Rattle.cs_core.specs.declared.plan.Plan.{Plan}

-- changes of a report are offered in order
abbrev pub report_plan : Own → Following → List Change → Plan
report_plan own m changes =
    let after = all_offered m.pending changes in
    record {
      entry = None;
      sends = [];
      note = notes.Noted after.1;
      after = goes_on own (record m { pending = after.0 });
    }

-- whether the node is itself the one that it reports to
abbrev pub is_reporter : Own → Following → Bool
is_reporter own m = reports_to own m.view == own.id

-- a change of its own that a reporter keeps meets this
abbrev pub kept_as : Own → Following → Change → Option Offer
kept_as own m change = if is_reporter own m then Some (offer_of m.pending change) else None

-- and its pending changes are these then
abbrev pub pending_with : Own → Following → Change → List Change
pending_with own m change =
    if is_reporter own m then after_offer (offer_of m.pending change) m.pending change else m.pending

-- any other node sends the change to its reporter
abbrev pub sends_of : Own → Following → Change → List (Address × Packet)
sends_of own m change =
    if is_reporter own m then [] else send_to own m.view (reports_to own m.view) (Report (change ∷ []))

-- the node moves: its moves are numbered, and the number is logged
abbrev pub move_plan : Own → Following → Axes → Plan
move_plan own m at =
    let change = Move own.id (m.seq + 1) at in
    if m.seq == last_id then only notes.SeqSpent else
    record {
      entry = Some (entries.Seq (m.seq + 1) at);
      sends = sends_of own m change;
      note = notes.Moved (m.seq + 1) (kept_as own m change);
      after = goes_on own (record m { pending = pending_with own m change; seq = m.seq + 1 });
    }

-- the node wants to leave, and stays a member until an epoch says that it left
abbrev pub leave_plan : Own → Following → Plan
leave_plan own m =
    let change = Leave own.id in
    record {
      entry = None;
      sends = sends_of own m change;
      note = notes.Told (kept_as own m change);
      after = goes_on own (record m { pending = pending_with own m change });
    }

-- the first pending changes go to the leader in one report
abbrev pub flush_plan : Own → Following → List Change → Plan
flush_plan own m [] = only notes.Nothing
flush_plan own m (change ∷ changes) =
    let front = take most_changes (change ∷ changes) in
    record {
      entry = None;
      sends = send_leader own (Report front);
      note = notes.Flushed (length front);
      after = goes_on own (record m { pending = drop most_changes (change ∷ changes) });
    }
