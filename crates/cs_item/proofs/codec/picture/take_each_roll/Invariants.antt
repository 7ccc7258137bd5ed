use Rattle.std.proofs.Common.{◌≡◌, ◌-◌, ◌+◌, ◌*◌, ◌<◌, ◌≤◌, length}
use Rattle.std.specs.List.{AllByRecursion}
use Rattle.cs_fields.specs.Counted.{elements_at}
use Rattle.cs_fields.proofs.Loops.{with_front}
use Rattle.cs_roll.specs.Sight.{IsByRegion}
use Rattle.cs_base.specs.Limits.{most_members}
use Rattle.cs_fields.specs.Fields.{member_len}
use Rattle.cs_item.specs.PictureField.{all_left, left_after, region_roll_after}
use Rattle.cs_item.proofs.codec.picture.take_each_roll.Given as goal

abbrev pub invariant-loop : goal.invariant-loop
invariant-loop l = record {
  so_far : with_front l.rolls (elements_at region_roll_after left_after (l.count - l.counter) (record { least = l.least; room = l.room }) l.bytes l.place)
      ≡ elements_at region_roll_after left_after l.count all_left l.bytes l.at;
  ascending : IsByRegion l.rolls;
  below : AllByRecursion (λ pair. pair.0 < l.least) l.rolls;
  few : l.room ≤ most_members;
  within : l.place ≤ length l.bytes;
  room : l.place + member_len * l.room ≤ l.at + 6 * l.counter + member_len * most_members;
}
