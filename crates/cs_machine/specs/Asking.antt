-- What a node asks of another: a snapshot, or the slice of a region of the next epoch.
use Rattle.std.specs.Prelude.{ℕ, ◌+◌, ◌==◌, [], ◌∷◌, Option, None, Some, if◌then◌else◌}
use Rattle.cs_base.specs.Address.{Address}
use Rattle.cs_base.specs.Limits.{last_number}
use Rattle.cs_core.specs.Asking.{asked_address, least_wanted}
use Rattle.cs_node.specs.declared.note.Note.TheVariants as notes
use Rattle.cs_packet.specs.declared.own.Own.{Own}
use Rattle.cs_machine.specs.Contents.{Contents, view_at}
use Rattle.cs_machine.specs.Names.{Ask, Following, Joining, Membership, Name, Need}
use Rattle.cs_machine.specs.Step.{Step, quiet}

-- a joining node asks the leader for any snapshot
abbrev pub ask_leader_step : Own → Step
ask_leader_step own = record {
  state = Joining;
  entry = None;
  note = notes.Told None;
  sends = (own.leader, Ask own.addr own.mode 0) ∷ [];
}

-- what a member asks goes to another node whose address it knows
abbrev pub asks : Membership → ℕ → Name → Option Address → Step
asks m to name None = quiet (Following m) (notes.Unknown to)
asks m to name (Some addr) =
    record { state = Following m; entry = None; note = notes.Told None; sends = (to, name) ∷ [] }

-- a member asks for a snapshot that tells it something new
abbrev pub ask_step : Contents → Own → ℕ → Membership → Step
ask_step c own to m =
    let view = view_at c m.epoch m.known in
    asks m to (Ask own.addr own.mode (least_wanted own view)) (asked_address own view to)

-- it has the number of a next epoch
abbrev pub unless_last : Membership → Option Address → Step → Step
unless_last m None step = step
unless_last m (Some addr) step = if m.epoch == last_number then quiet (Following m) notes.Spent else step

-- a member asks for a slice of the next epoch
abbrev pub need_step : Contents → Own → ℕ → ℕ → Membership → Step
need_step c own to region m =
    let addr = asked_address own (view_at c m.epoch m.known) to in
    unless_last m addr (asks m to (Need own.addr own.mode (m.epoch + 1) region) addr)
