-- What a member makes of a piece; the first row that fits decides. e is the epoch of its view.
--
--     its epoch      further condition                          answer
--     below e                                                   Stale
--     e              the node has no past                       Stale
--     e              the past view doesn't list the region      Unfit
--     e              the past has the piece                     Already
--     e              none of these                              it is passed on by the past view: Passed
--     above e + 1                                               Early
--     e + 1          the view doesn't list the region           Unfit
--     e + 1          the piece is held                          Already
--     e + 1          none of these                              it is taken
--
-- And of a slice:
--
--     not above e                                               Stale
--     above e + 1                                               Early
--     e + 1          the view doesn't list the region           Unfit
--     e + 1          all four pieces of the region are held     Already
--     e + 1          none of these                              it is taken
use Rattle.std.specs.Prelude.{ℕ, ◌+◌, ◌==◌, nat_le, nat_lt, not, List, [], ◌∷◌, ◌++◌, length, Option, None, Some}
use Rattle.std.specs.Prelude.{is_some, if◌then◌else◌}
use Rattle.cs_hold.specs.Held.{of_region, piece_in}
use Rattle.cs_item.specs.declared.slice.Slice.{Slice}
use Rattle.cs_packet.specs.declared.own.Own.{Own}
use Rattle.cs_core.specs.Node.{Following, Past, has_pair, lists}
use Rattle.cs_core.specs.Plans.{early, goes_on, only, or_unfit, stale, unlisted}
use Rattle.cs_packet.specs.NamedPiece.{NamedPiece}
use Rattle.cs_core.specs.Routing.{routed}
use Rattle.cs_core.specs.Taking.{gain_of_slice, gain_plan, piece_gained}
use Rattle.cs_core.specs.declared.plan.FollowNote.TheVariants as notes
use Rattle.cs_core.specs.declared.plan.Plan.{Plan}

-- the past with one more piece that was passed on
abbrev pub had_too : Past → NamedPiece → Past
had_too past piece = record past { had = past.had ++ (piece.region, piece.colour) ∷ [] }

-- the piece is passed on by the past view
abbrev pub pass_plan : Own → Following → Past → NamedPiece → Plan
pass_plan own m past piece = record {
  entry = None;
  sends = routed own.id past.view piece;
  note = notes.Passed;
  after = goes_on own (record m { past = Some (had_too past piece) });
}

-- a piece of the node's own epoch
abbrev pub late_plan : Own → Following → NamedPiece → Option Past → Plan
late_plan own m piece None = stale m piece.epoch
late_plan own m piece (Some past) =
    if not (lists past.view piece.region) then unlisted piece.region else
    (if has_pair past.had piece.region piece.colour then only notes.Already else pass_plan own m past piece)

-- a piece of the next epoch
abbrev pub next_piece_plan : Own → Following → NamedPiece → Plan
next_piece_plan own m piece =
    if not (lists m.view piece.region) then unlisted piece.region else
    (if is_some (piece_in piece.region piece.colour m.held) then only notes.Already else
    or_unfit (piece_gained own m piece))

abbrev pub piece_plan : Own → Following → NamedPiece → Plan
piece_plan own m piece =
    if nat_lt piece.epoch m.view.epoch then stale m piece.epoch else
    (if piece.epoch == m.view.epoch then late_plan own m piece m.past else
    (if nat_lt (m.view.epoch + 1) piece.epoch then early m piece.epoch else next_piece_plan own m piece))

-- a slice of the next epoch
abbrev pub next_slice_plan : Own → Following → Slice → Plan
next_slice_plan own m slice =
    if not (lists m.view slice.part.region) then unlisted slice.part.region else
    (if length (of_region slice.part.region m.held) == 4 then only notes.Already else
    or_unfit (gain_plan own m (gain_of_slice m slice)))

abbrev pub slice_plan : Own → Following → Slice → Plan
slice_plan own m slice =
    if nat_le slice.head.epoch m.view.epoch then stale m slice.head.epoch else
    (if nat_lt (m.view.epoch + 1) slice.head.epoch then early m slice.head.epoch else next_slice_plan own m slice)
