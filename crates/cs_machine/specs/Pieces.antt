-- What a member makes of a piece and of a slice; the first row that fits decides, with e as its epoch.
--
--     below e                                  Stale
--     e          it has no past                Stale, and so is each slice
--     e          its past has the piece        Already
--     e          neither                       it is passed on by what the node knew: Passed
--     above e + 1                              Early
--     e + 1      it is held                    Already
--     e + 1      it isn't                      it becomes held
use Rattle.std.specs.Prelude.{ℕ, ◌+◌, ◌-◌, ◌==◌, nat_le, nat_lt, [], ◌∷◌, ◌++◌, Option, None, Some, if◌then◌else◌}
use Rattle.cs_core.specs.Node.{has_pair}
use Rattle.cs_node.specs.declared.note.Note.TheVariants as notes
use Rattle.cs_packet.specs.declared.own.Own.{Own}
use Rattle.cs_machine.specs.Contents.{Contents}
use Rattle.cs_machine.specs.Held.{gain_of_piece, gain_of_slice, is_whole}
use Rattle.cs_machine.specs.Names.{Following, Membership, Past}
use Rattle.cs_machine.specs.Progress.{gain_step}
use Rattle.cs_machine.specs.Step.{Step, passed_on, quiet}

abbrev pub stale : Membership → ℕ → Step
stale m given = quiet (Following m) (notes.Stale m.epoch given)

abbrev pub early : Membership → ℕ → Step
early m given = quiet (Following m) (notes.Early m.epoch given)

abbrev pub already : Membership → Step
already m = quiet (Following m) notes.Already

-- a piece of the member's own epoch is passed on by what it knew before
abbrev pub passes : Contents → Own → Membership → Past → ℕ → ℕ → ℕ → Step
passes c own m past given region colour = record {
  state = Following (record m { past = Some (record past { had = past.had ++ (region, colour) ∷ [] }) });
  entry = None;
  note = notes.Passed;
  sends = passed_on c own.id (m.epoch - 1) past.known given region colour;
}

abbrev pub late_piece : Contents → Own → Membership → ℕ → ℕ → ℕ → Option Past → Step
late_piece c own m given region colour None = stale m given
late_piece c own m given region colour (Some past) =
    if has_pair past.had region colour then already m else passes c own m past given region colour

abbrev pub next_piece : Contents → Own → Membership → ℕ → ℕ → Step
next_piece c own m region colour =
    if has_pair m.held region colour then already m else gain_step c own m (gain_of_piece m region colour)

abbrev pub piece_step : Contents → Own → Membership → ℕ → ℕ → ℕ → Step
piece_step c own m given region colour =
    if nat_lt given m.epoch then stale m given else
    (if given == m.epoch then late_piece c own m given region colour m.past else
    (if nat_lt (m.epoch + 1) given then early m given else next_piece c own m region colour))

abbrev pub next_slice : Contents → Own → Membership → ℕ → Step
next_slice c own m region =
    if is_whole m.held region then already m else gain_step c own m (gain_of_slice m region)

abbrev pub slice_step : Contents → Own → Membership → ℕ → ℕ → Step
slice_step c own m given region =
    if nat_le given m.epoch then stale m given else
    (if nat_lt (m.epoch + 1) given then early m given else next_slice c own m region)
