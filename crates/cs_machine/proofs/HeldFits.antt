-- What a member of a reached world holds is few, and stays so with a piece or a slice of the next epoch.
use Rattle.std.proofs.Common.{◌≡◌, ℕ, ◌+◌, ◌-◌, false, true, List, subst, arith}
use Rattle.cs_core.specs.Node.{has_pair}
use Rattle.cs_group.specs.Group.{is_among}
use Rattle.cs_group.specs.Rows.{regions}
use Rattle.cs_machine.specs.Contents.{contents_of, group_of}
use Rattle.cs_machine.specs.Held.{gain_of_piece, gain_of_slice}
use Rattle.cs_machine.specs.Names.{Membership, World}
use Rattle.cs_machine.specs.Reached.{AreHeld, IsPieceOf, IsSliceOf, MemberFits}
use Rattle.cs_machine.proofs.CloseSquares.{back}
use Rattle.cs_machine.proofs.GainSquares.{few-after, there-after}
use Rattle.cs_machine.proofs.HeldGains.{AreFew}
use Rattle.cs_machine.proofs.SliceGains.{few-sliced, there-sliced}

-- what a member holds with a piece of the next epoch is allowed to be held
abbrev pub KeepsHeld : World → Type 0
KeepsHeld world = (m : Membership) (region colour : ℕ) → MemberFits world m → has_pair m.held region colour ≡ false
    → IsPieceOf world (m.epoch + 1) region colour → AreHeld world m.epoch (gain_of_piece m region colour).held

-- what is held is few
pub few-held : (world : World) (epoch : ℕ) (held : List (ℕ × ℕ)) → AreHeld world epoch held → AreFew held
few-held world epoch held are = record { ascending = are.ascending; below = are.colours; whole = are.whole }

-- a piece or a slice of the next epoch is of a region of the group
pub listed : (world : World) (m : Membership) (region : ℕ) → is_among (regions (group_of world (m.epoch + 1 - 1)).rows) region ≡ true
    → is_among (regions (group_of world m.epoch).rows) region ≡ true
listed world m region there = subst (λ e. is_among (regions (group_of world e).rows) region ≡ true) (back m.epoch) there

-- and is so with a piece of the next epoch
pub keeps-held : (world : World) → KeepsHeld world
keeps-held world m region colour fits fresh piece =
    let few = few-held world m.epoch m.held fits.held in
    let of_group = listed world m region piece.there in
    let after = few-after (contents_of world) m few fits.held.there region colour of_group piece.below fresh in
    record {
      ascending = after.ascending;
      begun = λ some. (let begun = piece.begun in omega (arith, begun));
      there = there-after (contents_of world) m few fits.held.there region colour of_group piece.below fresh;
      colours = after.below;
      whole = after.whole;
    }

-- and with a slice of it
pub keeps-slice : (world : World) (m : Membership) (region : ℕ) → MemberFits world m → IsSliceOf world (m.epoch + 1) region
    → AreHeld world m.epoch (gain_of_slice m region).held
keeps-slice world m region fits slice =
    let few = few-held world m.epoch m.held fits.held in
    let of_group = listed world m region slice.there in
    let after = few-sliced (contents_of world) m few fits.held.there region of_group in
    record {
      ascending = after.ascending;
      begun = λ some. (let begun = slice.begun in omega (arith, begun));
      there = there-sliced (contents_of world) m few fits.held.there region of_group;
      colours = after.below;
      whole = after.whole;
    }
