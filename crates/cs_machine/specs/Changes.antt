-- Changes on their way to the leader: a member's own go to the reporter of its region, who hands on what is pending.
use Rattle.std.specs.Prelude.{ℕ, ◌+◌, ◌==◌, Bool, List, [], ◌∷◌, length, take, drop, Option, None, Some}
use Rattle.std.specs.Prelude.{if◌then◌else◌}
use Rattle.cs_base.specs.Axes.{Axes}
use Rattle.cs_base.specs.Limits.{last_id, most_changes}
use Rattle.cs_base.specs.declared.change.Change.{Change}
use Rattle.cs_base.specs.declared.change.Change.TheVariants as changes
use Rattle.cs_core.specs.Addresses.{reports_to}
use Rattle.cs_node.specs.declared.note.Note.TheVariants as notes
use Rattle.cs_packet.specs.Own.{member_of_own}
use Rattle.cs_packet.specs.declared.own.Own.{Own}
use Rattle.cs_pending.specs.Counting.{all_offered}
use Rattle.cs_pending.specs.Pending.{after_offer, offer_of}
use Rattle.cs_pending.specs.declared.offer.Offer.{Offer}
use Rattle.cs_machine.specs.Contents.{Contents, view_at}
use Rattle.cs_machine.specs.Entries as entries
use Rattle.cs_machine.specs.Names.{Following, Joining, Leading, Left, Membership, Name, Report, State}
use Rattle.cs_machine.specs.Step.{Step, quiet}

-- a joining node asks the leader to let it in
abbrev pub join_step : Own → Step
join_step own = record {
  state = Joining;
  entry = None;
  note = notes.Told None;
  sends = (own.leader, Report (changes.Join (member_of_own own) ∷ [])) ∷ [];
}

-- whom a member reports to: the first global of its region, or the leader where it knows no roll that has it
abbrev pub reporter : Contents → Own → Membership → ℕ
reporter c own m = reports_to own (view_at c m.epoch m.known)

-- the member is that node itself
abbrev pub is_reporter : Contents → Own → Membership → Bool
is_reporter c own m = reporter c own m == own.id

-- what a member's own change meets, where the member keeps it itself
abbrev pub kept_as : Contents → Own → Membership → Change → Option Offer
kept_as c own m change = if is_reporter c own m then Some (offer_of m.pending change) else None

-- its pending changes then
abbrev pub pending_with : Contents → Own → Membership → Change → List Change
pending_with c own m change =
    if is_reporter c own m then after_offer (offer_of m.pending change) m.pending change else m.pending

-- otherwise the change goes to the reporter
abbrev pub reports : Contents → Own → Membership → Change → List (ℕ × Name)
reports c own m change = if is_reporter c own m then [] else (reporter c own m, Report (change ∷ [])) ∷ []

-- the member moves; its moves are numbered, and logged
abbrev pub move_step : Contents → Own → Axes → Membership → Step
move_step c own at m =
    let change = changes.Move own.id (m.seq + 1) at in
    if m.seq == last_id then quiet (Following m) notes.SeqSpent else
    record {
      state = Following (record m { pending = pending_with c own m change; seq = m.seq + 1 });
      entry = Some (entries.Seq (m.seq + 1) at);
      note = notes.Moved (m.seq + 1) (kept_as c own m change);
      sends = reports c own m change;
    }

-- the member wants to leave
abbrev pub leave_step : Contents → Own → Membership → Step
leave_step c own m =
    let change = changes.Leave own.id in
    record {
      state = Following (record m { pending = pending_with c own m change });
      entry = None;
      note = notes.Told (kept_as c own m change);
      sends = reports c own m change;
    }

-- the first pending changes go to the leader
abbrev pub flush_step : Own → Membership → List Change → Step
flush_step own m [] = quiet (Following m) notes.Nothing
flush_step own m (change ∷ changes) =
    let front = take most_changes (change ∷ changes) in
    record {
      state = Following (record m { pending = drop most_changes (change ∷ changes) });
      entry = None;
      note = notes.Flushed (length front);
      sends = (own.leader, Report front) ∷ [];
    }

-- a report comes: a member and the leader offer its changes to their pending ones
abbrev pub report_step : State → List Change → Step
report_step Joining given = quiet Joining notes.Idle
report_step (Following m) given =
    let after = all_offered m.pending given in
    quiet (Following (record m { pending = after.0 })) (notes.Noted after.1)
report_step (Leading epoch pending) given =
    let after = all_offered pending given in
    quiet (Leading epoch after.0) (notes.Noted after.1)
report_step Left given = quiet Left notes.Departed
