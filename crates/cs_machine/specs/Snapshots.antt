-- What a node makes of a snapshot.
use Rattle.std.specs.Prelude.{ℕ, ◌==◌, ◌&&◌, ◌||◌, nat_le, nat_lt, Bool, List, [], None, Some, if◌then◌else◌}
use Rattle.std.specs.List.{list_all}
use Rattle.cs_base.specs.declared.change.Change.{Change}
use Rattle.cs_group.specs.Group.{is_among}
use Rattle.cs_node.specs.declared.note.Note.{Note}
use Rattle.cs_node.specs.declared.note.Note.TheVariants as notes
use Rattle.cs_packet.specs.declared.own.Own.{Own}
use Rattle.cs_slicer.specs.Projection.{known_by}
use Rattle.cs_machine.specs.Contents.{Contents}
use Rattle.cs_machine.specs.Entries as entries
use Rattle.cs_machine.specs.Names.{Following, Joining, Leading, Left, Membership, State}
use Rattle.cs_machine.specs.Step.{Step, quiet}

-- the regions that a node knows by a snapshot with the rolls of these
abbrev pub known_from : Contents → Own → ℕ → List ℕ → List ℕ
known_from c own epoch given = known_by own.id own.mode (c.group epoch).rows given

-- a member of an epoch by its snapshot: it holds and used nothing, and has no past
abbrev pub at_snapshot : ℕ → List ℕ → List Change → ℕ → Membership
at_snapshot epoch known pending seq = record {
  epoch = epoch;
  known = known;
  held = [];
  used = [];
  pending = pending;
  seq = seq;
  past = None;
}

-- what is known by it is logged
abbrev pub jumps : ℕ → List ℕ → List Change → ℕ → Step
jumps epoch known pending seq = record {
  state = Following (at_snapshot epoch known pending seq);
  entry = Some (entries.View epoch known);
  note = notes.Jumped epoch;
  sends = [];
}

-- a snapshot tells a member nothing new where it is of an epoch before, or of its own with regions that it knows
abbrev pub is_old : Membership → ℕ → List ℕ → Bool
is_old m epoch known = nat_lt epoch m.epoch || ((epoch == m.epoch) && list_all (is_among m.known) known)

-- what is for members of an epoch tells the leader nothing: it has its own, and no later one has begun
abbrev pub untold : ℕ → ℕ → Note
untold have given = if nat_le given have then notes.Stale have given else notes.Early have given

-- a snapshot of an epoch comes, by which the node would know these regions
abbrev pub snapshot_step : State → ℕ → List ℕ → Step
snapshot_step Joining epoch known = jumps epoch known [] 0
snapshot_step (Following m) epoch known =
    if is_old m epoch known then quiet (Following m) (notes.Stale m.epoch epoch) else jumps epoch known m.pending m.seq
snapshot_step (Leading have pending) epoch known = quiet (Leading have pending) (untold have epoch)
snapshot_step Left epoch known = quiet Left notes.Departed
