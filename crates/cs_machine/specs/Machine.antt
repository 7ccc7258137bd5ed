-- What a node does at a call, in names: of the items it reads what its own names stand for.
use Rattle.std.specs.Prelude.{ℕ, [], Some}
use Rattle.cs_node.specs.declared.note.Note.TheVariants as notes
use Rattle.cs_packet.specs.declared.own.Own.{Own}
use Rattle.cs_machine.specs.Answers.{ForSlice, ForSnapshot, wish_step}
use Rattle.cs_machine.specs.Changes.{report_step}
use Rattle.cs_machine.specs.Contents.{Contents}
use Rattle.cs_machine.specs.Entries as entries
use Rattle.cs_machine.specs.Names.{Name, Report, Piece, Need, Slice, Ask, Snap, Bye}
use Rattle.cs_machine.specs.Names.{Following, Joining, Leading, Left, State}
use Rattle.cs_machine.specs.Pieces.{piece_step, slice_step}
use Rattle.cs_machine.specs.Snapshots.{known_from, snapshot_step, untold}
use Rattle.cs_machine.specs.Step.{Step, quiet}

-- a piece comes; only a member has a use for it
abbrev pub piece_comes : Contents → Own → State → ℕ → ℕ → ℕ → Step
piece_comes c own Joining epoch region colour = quiet Joining notes.Idle
piece_comes c own (Following m) epoch region colour = piece_step c own m epoch region colour
piece_comes c own (Leading have pending) epoch region colour = quiet (Leading have pending) (untold have epoch)
piece_comes c own Left epoch region colour = quiet Left notes.Departed

-- a slice comes
abbrev pub slice_comes : Contents → Own → State → ℕ → ℕ → Step
slice_comes c own Joining epoch region = quiet Joining notes.Idle
slice_comes c own (Following m) epoch region = slice_step c own m epoch region
slice_comes c own (Leading have pending) epoch region = quiet (Leading have pending) (untold have epoch)
slice_comes c own Left epoch region = quiet Left notes.Departed

-- the node is told at an epoch that it is no member
abbrev pub leaves_at : ℕ → Step
leaves_at epoch = record { state = Left; entry = Some (entries.Gone epoch); note = notes.Departed; sends = [] }

-- a bye comes
abbrev pub bye_comes : State → ℕ → Step
bye_comes Joining epoch = leaves_at epoch
bye_comes (Following m) epoch = leaves_at epoch
bye_comes (Leading have pending) epoch = quiet (Leading have pending) notes.Idle
bye_comes Left epoch = quiet Left notes.Departed

-- a packet comes to a node in a state, from another
abbrev pub deliver_step : Contents → Own → State → ℕ → Name → Step
deliver_step c own state from (Report changes) = report_step state changes
deliver_step c own state from (Piece epoch region colour) = piece_comes c own state epoch region colour
deliver_step c own state from (Need addr mode epoch region) = wish_step c state from (ForSlice mode epoch region)
deliver_step c own state from (Slice epoch region) = slice_comes c own state epoch region
deliver_step c own state from (Ask addr mode least) = wish_step c state from (ForSnapshot mode least)
deliver_step c own state from (Snap epoch regions) = snapshot_step state epoch (known_from c own epoch regions)
deliver_step c own state from (Bye epoch) = bye_comes state epoch
