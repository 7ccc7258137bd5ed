-- The plans on what is taken: of the next epoch, of a listed region and not there yet, or a view that isn't older.
use Rattle.std.proofs.Common.{◌≡◌, ◌≢◌, ◌==◌, nat_lt, ℕ, true, false, length, is_some, Option, Some, None, refl, arith}
use Rattle.std.specs.Ordering.{is_lt, nat_cmp}
use Rattle.std.proofs.lemmas.Bool.{true≢false}
use Rattle.std.proofs.lemmas.Bool.Decides.{nat_tests}
use Rattle.cs_hold.specs.Held.{of_region, piece_in}
use Rattle.cs_item.specs.declared.picture.Picture.{Picture}
use Rattle.cs_item.specs.declared.slice.Slice.{Slice}
use Rattle.cs_packet.specs.declared.own.Own.{Own}
use Rattle.cs_core.specs.Node.{Following, lists}
use Rattle.cs_core.specs.Pieces.{next_piece_plan, next_slice_plan}
use Rattle.cs_core.specs.Plans.{or_unfit}
use Rattle.cs_packet.specs.NamedPiece.{NamedPiece}
use Rattle.cs_core.specs.Snapshots.{next_view, snap_plan}
use Rattle.cs_core.specs.Taking.{gain_of_slice, gain_plan, piece_gained}

-- what isn't there is none
pub none-there : {X : Type 0} (o : Option X) → is_some o ≡ false → o ≡ None
none-there None is = refl
none-there (Some x) is = absurd (true≢false is)

-- a number is below another where it is compared so
pub lt-compared : (a b : ℕ) → is_lt (nat_cmp a b) ≡ nat_lt a b
lt-compared a b = grind (arith, nat_tests)

module _ (own : Own) (m : Following) where
  -- a piece that is taken
  pub next_piece-taken : (piece : NamedPiece) → lists m.view piece.region ≡ true → is_some (piece_in piece.region piece.colour m.held) ≡ false
      → next_piece_plan own m piece ≡ or_unfit (piece_gained own m piece)
  next_piece-taken piece listed apart = rw (listed, apart) refl

  -- a slice that is taken
  pub next_slice-taken : (s : Slice) → lists m.view s.part.region ≡ true → (length (of_region s.part.region m.held) == 4) ≡ false
      → next_slice_plan own m s ≡ or_unfit (gain_plan own m (gain_of_slice m s))
  next_slice-taken s listed apart = rw (listed, apart) refl

  -- a view that may be taken
  pub snap-taken : (picture : Picture) → nat_lt picture.epoch m.view.epoch ≡ false → snap_plan own m picture ≡ or_unfit (next_view own m picture)
  snap-taken picture late = rw late refl
