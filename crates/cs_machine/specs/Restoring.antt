-- What a restart brings back of a node: what the entries of its log lead to.
use Rattle.std.specs.Prelude.{ℕ, ◌-◌, ◌==◌, List, [], ◌∷◌, None, if◌then◌else◌}
use Rattle.cs_packet.specs.declared.own.Own.{Own}
use Rattle.cs_slicer.specs.Projection.{image}
use Rattle.cs_machine.specs.Contents.{Contents}
use Rattle.cs_machine.specs.Entries.{Entry}
use Rattle.cs_machine.specs.Entries as entries
use Rattle.cs_machine.specs.Names.{Following, Joining, Leading, Left, State}
use Rattle.cs_machine.specs.Snapshots.{at_snapshot}

-- at its start the leader is at epoch 0, and another node is joining
abbrev pub first_state : Own → State
first_state own = if own.id == own.leader then Leading 0 [] else Joining

-- the number of the last move; none yet is 0
abbrev pub seq_of : State → ℕ
seq_of (Following m) = m.seq
seq_of state = 0

-- a member that has moved
abbrev pub with_seq : ℕ → State → State
with_seq seq (Following m) = Following (record m { seq = seq })
with_seq seq state = state

-- a member of an epoch that the slices of these regions led to: it knows what has become of the regions that it knew
abbrev pub at_step : Contents → Own → ℕ → List ℕ → State → State
at_step c own epoch used (Following m) = Following (record m {
  epoch = epoch;
  known = image (c.group (epoch - 1)) (c.turn epoch) m.known own.id own.mode;
  used = used;
})
at_step c own epoch used state = state

-- what an entry makes of a state
abbrev pub resumed : Contents → Own → State → Entry → State
resumed c own state (entries.Boot who) = first_state who
resumed c own state (entries.Seq seq at) = with_seq seq state
resumed c own state (entries.View epoch known) = Following (at_snapshot epoch known [] (seq_of state))
resumed c own state (entries.Step epoch used) = at_step c own epoch used state
resumed c own state (entries.Gone epoch) = Left
resumed c own state (entries.Item epoch changes anew) = Leading epoch []

-- what entries make of it, one after the other
abbrev pub resumed_by : Contents → Own → State → List Entry → State
resumed_by c own state [] = state
resumed_by c own state (entry ∷ more) = resumed_by c own (resumed c own state entry) more

-- what a log's entries lead to
abbrev pub restored : Contents → Own → List Entry → State
restored c own written = resumed_by c own Joining written

-- what is left of a state at a restart: all but held pieces, pending changes and the past
abbrev pub lasting : State → State
lasting Joining = Joining
lasting (Following m) = Following (record m { held = []; pending = []; past = None })
lasting (Leading epoch pending) = Leading epoch []
lasting Left = Left
