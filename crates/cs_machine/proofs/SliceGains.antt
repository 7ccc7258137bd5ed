-- A slice of the next epoch fits what a member of the run has: what it gained is what its names stand for.
use Rattle.std.proofs.Common.{◌≡◌, ◌∙◌, ℕ, ◌+◌, true, false, cond, List, map, ap, arith}
use Rattle.std.specs.List.{AllByRecursion}
use Rattle.cs_core.specs.Taking.{Gain as Gained, gain_of_slice as gain_values, new_colours as new_values}
use Rattle.cs_group.specs.Group.{is_among}
use Rattle.cs_group.specs.Rows.{regions}
use Rattle.cs_hold.specs.Held.{Held, with_region}
use Rattle.cs_hold.specs.Pieces.{four_of}
use Rattle.cs_hold.specs.Taking.{sliced}
use Rattle.cs_hold.proofs.Gained.{ArePieces-four}
use Rattle.cs_item.specs.SliceField.{IsSlice, slice_bytes}
use Rattle.cs_machine.specs.Contents.{Contents, slice_at}
use Rattle.cs_machine.specs.Held.{all_colours, gain_of_slice, is_whole}
use Rattle.cs_machine.specs.Names.{Membership}
use Rattle.cs_machine.specs.Values.{held_for, member_for}
use Rattle.cs_machine.proofs.HeldGains.{AreFew}
use Rattle.cs_machine.proofs.HeldStands.{All-with_colours, few-with, new-held, new_colours-for, none, stands-for}
use Rattle.cs_machine.proofs.HeldValues.{for, is_whole-for, with_region-for}
use Rattle.cs_machine.proofs.ProgressSquares.{GainStands}

module _ (c : Contents) (m : Membership) (few : AreFew m.held)
    (there : AllByRecursion (λ (pair : ℕ × ℕ). is_among (regions (c.group m.epoch).rows) pair.0 ≡ true) m.held)
    (region : ℕ) (listed : is_among (regions (c.group m.epoch).rows) region ≡ true) where
  -- what is held then
  abbrev after : List (ℕ × ℕ)
  after = (gain_of_slice m region).held

  -- the pairs are few again
  pub few-sliced : AreFew after
  few-sliced = few-with region all_colours m.held few (ArePieces-four (none region) (omega arith))

  -- and of regions of the group
  pub there-sliced : AllByRecursion (λ (pair : ℕ × ℕ). is_among (regions (c.group m.epoch).rows) pair.0 ≡ true) after
  there-sliced = All-with_colours (λ o. is_among (regions (c.group m.epoch).rows) o ≡ true) region all_colours m.held listed there

  -- the bytes of a slice of the next epoch
  abbrev bytes : ℕ → List ℕ
  bytes o = slice_bytes (slice_at c (m.epoch + 1) o)

  module _ (partly : is_whole m.held region ≡ false) where
    -- all pieces of the region are those of the slice
    held-is : sliced region (bytes region) (map (for bytes) m.held) ≡ map (for bytes) after
    held-is =
        let hs : List Held = map (for bytes) m.held in
        ap (λ b. cond b hs (with_region region (four_of (bytes region)) hs)) (is_whole-for bytes region m.held ∙ partly)
        ∙ with_region-for bytes region all_colours m.held

    -- what the member gained in values
    pub sliced-is : gain_values (member_for c m) (slice_at c (m.epoch + 1) region)
        ≡ (let wanted : Gained = record {
          region = region;
          held = map (held_for c (m.epoch + 1)) after;
          colours = (gain_of_slice m region).colours;
        } in wanted)
    sliced-is =
        let made : List Held → Gained = λ hs. record {
          region = region;
          held = hs;
          colours = new_values region (map (for bytes) m.held) hs;
        } in
        let wanted : List ℕ → Gained = λ ks. record { region = region; held = map (for bytes) after; colours = ks } in
        ap made held-is ∙ ap wanted (new_colours-for bytes region m.held after)

  -- it is what its names stand for
  pub sliced-stands : ((o : ℕ) → is_among (regions (c.group m.epoch).rows) o ≡ true → IsSlice (slice_at c (m.epoch + 1) o))
      → GainStands c m (gain_of_slice m region)
  sliced-stands slices = stands-for c m (gain_of_slice m region) few-sliced there-sliced slices (new-held region m.held after)
