use Rattle.std.proofs.Common.{◌≡◌, ◌-◌, ◌+◌, ◌*◌, ◌<◌, ◌≤◌, length}
use Rattle.std.specs.List.{AllByRecursion}
use Rattle.cs_fields.specs.Counted.{elements_at, above}
use Rattle.cs_fields.specs.Fields.{member_from, member_len}
use Rattle.cs_fields.proofs.Loops.{with_front}
use Rattle.cs_roll.specs.Roll.{IsById, member_id}
use Rattle.cs_item.proofs.codec.roll.take_members.Given as goal

abbrev pub invariant-loop : goal.invariant-loop
invariant-loop l = record {
  so_far : with_front l.roll (elements_at member_from (above member_id) (l.count - l.counter) l.least l.bytes l.place)
      ≡ elements_at member_from (above member_id) l.count 1 l.bytes l.at;
  ascending : IsById l.roll;
  below : AllByRecursion (λ m. m.id < l.least) l.roll;
  least : 1 ≤ l.least;
  within : l.place ≤ length l.bytes;
  room : l.place ≤ l.at + member_len * l.counter;
}
