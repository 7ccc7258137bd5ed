-- Taking a piece or a slice of the next epoch, step by step. The colours of a region that become held are sent on at
-- the end, by the view from before, the one that came first.
use Rattle.std.specs.Prelude.{ℕ, ◌+◌, ◌==◌, ◌&&◌, not, Bool, List, [], ◌∷◌, map, Option, None, Some, is_some}
use Rattle.std.specs.Prelude.{Result, Ok, Err, if◌then◌else◌}
use Rattle.std.specs.List.{filter, filter_map, find, flat_map, list_all, range_with_len}
use Rattle.std.specs.Option.{option_map, option_map_or}
use Rattle.cs_base.specs.Address.{Address}
use Rattle.cs_base.specs.Ascending.{placed_by}
use Rattle.cs_base.specs.Limits.{colours}
use Rattle.cs_hold.specs.Held.{Held, piece_in}
use Rattle.cs_hold.specs.Taking.{sliced}
use Rattle.cs_item.specs.SliceField.{slice_bytes}
use Rattle.cs_item.specs.declared.part.Part.{Part}
use Rattle.cs_item.specs.declared.picture.Picture.{Picture}
use Rattle.cs_item.specs.declared.slice.Slice.{Slice}
use Rattle.cs_packet.specs.declared.entry.Entry.TheVariants as entries
use Rattle.cs_packet.specs.declared.own.Own.{Own}
use Rattle.cs_packet.specs.declared.packet.Packet.{Packet}
use Rattle.cs_view.specs.Faults.{step}
use Rattle.cs_view.specs.Step.{is_known}
use Rattle.cs_view.specs.declared.fault.ViewFault.{ViewFault}
use Rattle.cs_view.specs.declared.next.Next.{Next}
use Rattle.cs_view.specs.declared.next.Next.TheVariants as next
use Rattle.cs_core.specs.Heads.{is_same_head}
use Rattle.cs_core.specs.Holding.{held_with_piece, least_slice, slice_in}
use Rattle.cs_core.specs.Node.{Following}
use Rattle.cs_core.specs.Plans.{goes_on, unfit_by, unless_unfit, ◌>>=◌}
use Rattle.cs_packet.specs.NamedPiece.{NamedPiece}
use Rattle.cs_core.specs.Routing.{routed}
use Rattle.cs_core.specs.declared.plan.FollowNote.TheVariants as notes
use Rattle.cs_core.specs.declared.plan.Outcome.TheVariants as outcomes
use Rattle.cs_core.specs.declared.plan.Plan.{Plan}
use Rattle.cs_core.specs.declared.plan.Unfit.{Unfit}
use Rattle.cs_core.specs.declared.plan.Unfit.TheVariants as unfit

-- what came: its region, what is held with it, and the colours that became held, in the order in which they are sent
pub record Gain : Type 0 where
  pub region : ℕ
  pub held : List Held
  pub colours : List ℕ

-- whether a colour of a region is held now and wasn't before
abbrev pub is_new : ℕ → List Held → List Held → ℕ → Bool
is_new region before after colour =
    is_some (piece_in region colour after) && not (is_some (piece_in region colour before))

-- the colours of a region that are held now and weren't before
abbrev pub new_colours : ℕ → List Held → List Held → List ℕ
new_colours region before after = filter (is_new region before after) (range_with_len 0 colours)

-- the colour that came, and then the others
abbrev pub came_first : ℕ → List ℕ → List ℕ
came_first colour others = colour ∷ filter (λ other. not (other == colour)) others

-- the piece becomes held, and with a third piece of its region the fourth; the slice of the three has to fit
abbrev pub gain_of_piece : Following → ℕ → ℕ → List ℕ → Result Gain Unfit
gain_of_piece m region colour bytes =
    held_with_piece (m.view.epoch + 1) region colour bytes m.held
    >>= λ held. Ok (record {
      region = region;
      held = held;
      colours = came_first colour (new_colours region m.held held);
    })

-- all pieces of a slice become held
abbrev pub gain_of_slice : Following → Slice → Gain
gain_of_slice m slice =
    let region = slice.part.region in
    let held = sliced region (slice_bytes slice) m.held in
    record { region = region; held = held; colours = new_colours region m.held held }

-- the bytes of a held piece
abbrev pub text_in : ℕ → ℕ → List Held → List ℕ
text_in region colour held = option_map_or (λ text. text) (piece_in region colour held) []

-- a piece that became held is sent by the view from before
abbrev pub gained_sends : Own → Following → Gain → ℕ → List (Address × Packet)
gained_sends own m gain colour =
    routed own.id m.view (record {
      epoch = m.view.epoch + 1;
      region = gain.region;
      colour = colour;
      bytes = text_in gain.region colour gain.held;
    })

-- and so is each of them
abbrev pub gain_sends : Own → Following → Gain → List (Address × Packet)
gain_sends own m gain = flat_map (gained_sends own m gain) gain.colours

-- the regions whose slices are used where w is the least whole one: its own, and those of the known regions that its
-- head calls touched
abbrev pub needed : Picture → Slice → List ℕ
needed view w = placed_by (λ region. region) w.part.region (filter (is_known view.rolls) w.head.touched)

-- whether each of these regions is whole
abbrev pub are_whole : List Held → List ℕ → Bool
are_whole held regions = list_all (λ region. is_some (slice_in region held)) regions

-- the slices of these regions
abbrev pub slices_in : List Held → List ℕ → List Slice
slices_in held regions = filter_map (λ region. slice_in region held) regions

-- the slices that are used, where all that are needed are there
abbrev pub used_with : Picture → List Held → Slice → Option (List Slice)
used_with view held w =
    if are_whole held (needed view w) then Some (slices_in held (needed view w)) else None

-- the least used region whose head differs
abbrev pub heads_fault : Slice → List Slice → Option Unfit
heads_fault w used =
    option_map (λ (s : Slice). unfit.Heads s.part.region)
    (find (λ (s : Slice). not (is_same_head s.head w.head)) used)

-- the node holds what came, and waits for more
abbrev pub hold_plan : Own → Following → Gain → Plan
hold_plan own m gain = record {
  entry = None;
  sends = gain_sends own m gain;
  note = notes.Held;
  after = goes_on own (record m { held = gain.held });
}

-- the region and the colour of each held piece
abbrev pub names_of : List Held → List (ℕ × ℕ)
names_of held = map (λ (h : Held). (h.region, h.colour)) held

-- the node is a member of the next epoch, by the slices that it used; its past has all that it held
abbrev pub advanced : Following → List Held → List Slice → Picture → Following
advanced m held used view = record {
  view = view;
  held = [];
  used = used;
  pending = m.pending;
  seq = m.seq;
  past = Some (record { view = m.view; had = names_of held });
}

abbrev pub advance_plan : Own → Following → Gain → List Slice → Picture → Plan
advance_plan own m gain used view = record {
  entry = Some (entries.Step used);
  sends = gain_sends own m gain;
  note = notes.Advanced view.epoch;
  after = goes_on own (advanced m gain.held used view);
}

-- the next epoch says that the node left
abbrev pub depart_plan : Own → Following → Gain → Plan
depart_plan own m gain = record {
  entry = Some (entries.Gone (m.view.epoch + 1));
  sends = gain_sends own m gain;
  note = notes.Departed;
  after = outcomes.Gone;
}

-- the plan after the step of the view
abbrev pub stepped : Own → Following → Gain → List Slice → Next → Plan
stepped own m gain used (next.Member view) = advance_plan own m gain used view
stepped own m gain used next.Departed = depart_plan own m gain

-- the parts of slices
abbrev pub parts_of : List Slice → List Part
parts_of slices = map (λ (s : Slice). s.part) slices

-- the step of the view by the used slices, whose heads have to be the same
abbrev pub step_with : Own → Picture → Slice → List Slice → Result Next Unfit
step_with own view w used =
    unless_unfit (heads_fault w used) used
    >>= λ all. unfit_by unfit.View (step own.id own.mode view w.head (parts_of all))

-- where w is the least whole slice: the used slices and what they give, if all that is needed is there
abbrev pub progress_with : Own → Picture → Slice → Option (List Slice) → Result (Option (List Slice × Next)) Unfit
progress_with own view w None = Ok None
progress_with own view w (Some used) = step_with own view w used >>= λ after. Ok (Some (used, after))

-- no region is whole, or w is the least whole slice
abbrev pub progress_from : Own → Picture → List Held → Option Slice → Result (Option (List Slice × Next)) Unfit
progress_from own view held None = Ok None
progress_from own view held (Some w) = progress_with own view w (used_with view held w)

-- the step that the held pieces make possible, if any
abbrev pub progress : Own → Picture → List Held → Result (Option (List Slice × Next)) Unfit
progress own view held = progress_from own view held (least_slice held)

-- the plan by the step, if there is one
abbrev pub plan_by : Own → Following → Gain → Option (List Slice × Next) → Plan
plan_by own m gain None = hold_plan own m gain
plan_by own m gain (Some made) = stepped own m gain made.0 made.1

-- what becomes of a node with what it gained
abbrev pub gain_plan : Own → Following → Gain → Result Plan Unfit
gain_plan own m gain = progress own m.view gain.held >>= λ made. Ok (plan_by own m gain made)

-- the same of a piece that came
abbrev pub piece_gained : Own → Following → NamedPiece → Result Plan Unfit
piece_gained own m piece = gain_of_piece m piece.region piece.colour piece.bytes >>= gain_plan own m
