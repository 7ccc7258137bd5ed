-- A piece of the next epoch fits what a member of the run has: what it gained is what its names stand for.
use Rattle.std.proofs.Common.{◌≡◌, ◌∙◌, ◌==◌, ℕ, ◌+◌, ◌^◌, ◌<◌, true, false, not, List, length, map, Result, Ok, refl, ap, arith}
use Rattle.std.specs.List.{AllByRecursion}
use Rattle.cs_base.specs.Limits.{colours}
use Rattle.cs_base.proofs.Ascending.{All-of_filter}
use Rattle.cs_core.specs.Node.{has_pair}
use Rattle.cs_core.specs.Plans.{◌>>=◌}
use Rattle.cs_core.specs.Taking.{Gain as Gained, came_first, gain_of_piece as gain_values, new_colours as new_values}
use Rattle.cs_core.specs.declared.plan.Unfit.{Unfit}
use Rattle.cs_core.proofs.Gains.{slice-few, slice_of-bytes}
use Rattle.cs_group.specs.Group.{is_among}
use Rattle.cs_group.specs.Rows.{regions}
use Rattle.cs_hold.specs.Held.{Held}
use Rattle.cs_item.specs.SliceField.{IsSlice, slice_bytes}
use Rattle.cs_item.specs.declared.slice.Slice.{Slice}
use Rattle.cs_machine.specs.Contents.{Contents, piece_at, slice_at}
use Rattle.cs_machine.specs.Held.{colours_in, gain_of_piece, gained, new_colours}
use Rattle.cs_machine.specs.Names.{Membership}
use Rattle.cs_machine.specs.Values.{held_for, member_for}
use Rattle.cs_machine.proofs.HeldGains.{AreFew, among-gained, colours-with}
use Rattle.cs_machine.proofs.HeldStands.{All-with_colours, few-piece, new-held, new_colours-for, none, stands-for, with_piece-for}
use Rattle.cs_machine.proofs.HeldValues.{for, pair-among}
use Rattle.cs_machine.proofs.ProgressSquares.{GainStands}

module _ (c : Contents) (m : Membership) (few : AreFew m.held)
    (there : AllByRecursion (λ (pair : ℕ × ℕ). is_among (regions (c.group m.epoch).rows) pair.0 ≡ true) m.held)
    (region colour : ℕ) (listed : is_among (regions (c.group m.epoch).rows) region ≡ true) (lt : colour < colours)
    (new : has_pair m.held region colour ≡ false) where
  -- what is held then
  abbrev after : List (ℕ × ℕ)
  after = (gain_of_piece m region colour).held

  -- the pairs are few again
  pub few-after : AreFew after
  few-after = few-piece m.held few region colour lt new

  -- and of regions of the group
  pub there-after : AllByRecursion (λ (pair : ℕ × ℕ). is_among (regions (c.group m.epoch).rows) pair.0 ≡ true) after
  there-after =
      All-with_colours (λ o. is_among (regions (c.group m.epoch).rows) o ≡ true) region (gained colour (colours_in region m.held)) m.held listed there

  module _ (slices : (o : ℕ) → is_among (regions (c.group m.epoch).rows) o ≡ true → IsSlice (slice_at c (m.epoch + 1) o)) where
    -- the bytes of a slice of the next epoch
    abbrev bytes : ℕ → List ℕ
    bytes o = slice_bytes (slice_at c (m.epoch + 1) o)

    -- those of the region are few
    short : length (bytes region) < 2 ^ 32
    short = omega (arith, slice-few (slice_at c (m.epoch + 1) region) (slices region listed))

    -- what the member gained in values
    pub gain-is : gain_values (member_for c m) region colour (piece_at c (m.epoch + 1) region colour)
        ≡ (let wanted : Result Gained Unfit = Ok (record {
          region = region;
          held = map (held_for c (m.epoch + 1)) after;
          colours = (gain_of_piece m region colour).colours;
        }) in wanted)
    gain-is =
        let slice : Slice = slice_at c (m.epoch + 1) region in
        let made : List Held → Result Gained Unfit = λ hs. Ok (record {
          region = region;
          held = hs;
          colours = came_first colour (new_values region (map (for bytes) m.held) hs);
        }) in
        let wanted : List ℕ → Result Gained Unfit = λ ks. Ok (record { region = region; held = map (for bytes) after; colours = came_first colour ks }) in
        ap (λ (r : Result (List Held) Unfit). r >>= made)
        (with_piece-for m.held few region colour lt new bytes (m.epoch + 1) slice short (slice_of-bytes slice (slices region listed)) refl refl)
        ∙ ap wanted (new_colours-for bytes region m.held after)

    -- each colour that is sent on is held
    held-now : AllByRecursion (λ k. has_pair after region k ≡ true) (gain_of_piece m region colour).colours
    held-now = (
      pair-among after region colour
          ∙ (ap (λ ks. is_among ks colour) (colours-with region (gained colour (colours_in region m.held)) m.held)
          ∙ among-gained none m.held few region colour (omega arith) lt new (colours_in region m.held)),
      All-of_filter (λ k. has_pair after region k ≡ true) (λ other. not (other == colour)) (new_colours region m.held after)
          (new-held region m.held after),
    )

    -- it is what its names stand for
    pub gain-stands : GainStands c m (gain_of_piece m region colour)
    gain-stands = stands-for c m (gain_of_piece m region colour) few-after there-after slices held-now
