-- The plans on what a member gained are sound.
use Rattle.std.proofs.Common.{◌≡◌, ◌+◌, ◌<◌, ◌≤◌, ℕ, List, length, arith}
use Rattle.cs_item.specs.declared.picture.Picture.{Picture}
use Rattle.cs_item.specs.declared.slice.Slice.{Slice}
use Rattle.cs_packet.specs.PacketField.{AreSends}
use Rattle.cs_packet.specs.declared.own.Own.{Own}
use Rattle.cs_core.specs.Gained.{IsGain}
use Rattle.cs_core.specs.Kept.{AreUsed}
use Rattle.cs_core.specs.Node.{Following}
use Rattle.cs_core.specs.Sound.{IsSound}
use Rattle.cs_core.specs.Taking.{Gain, advance_plan, depart_plan, gain_sends, hold_plan}

module _ (own : Own) (m : Following) (gain : Gain) (sends : AreSends (gain_sends own m gain)) where
  -- nothing is logged
  pub IsSound-hold : IsSound (hold_plan own m gain)
  IsSound-hold = record { entry = tt; sends = sends; note = tt; idle = λ idle. absurd idle }

  -- the slices that were used are logged
  pub IsSound-advance : (epoch : ℕ) (used : List Slice) (view : Picture) → AreUsed epoch used → 0 < length used
      → IsSound (advance_plan own m gain used view)
  IsSound-advance epoch used view are some = record {
    entry = record { enough = omega (arith, some); few = are.few; allowed = are.slices; ascending = are.ascending };
    sends = sends;
    note = tt;
    idle = λ idle. absurd idle;
  }

  -- that the node left is logged
  pub IsSound-depart : IsGain m gain → IsSound (depart_plan own m gain)
  IsSound-depart is = record {
    entry = (omega arith, is.epoch.1);
    sends = sends;
    note = tt;
    idle = λ idle. absurd idle;
  }
