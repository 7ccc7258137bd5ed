use Rattle.std.proofs.Common.{◌≡◌, ◌-◌, ◌+◌, ◌*◌, ◌<◌, ◌≤◌, length}
use Rattle.std.specs.List.{AllByRecursion}
use Rattle.cs_fields.specs.Counted.{elements_at, above}
use Rattle.cs_fields.proofs.Loops.{with_front}
use Rattle.cs_roll.specs.Sight.{IsByRegion}
use Rattle.cs_item.specs.Beside.{beside_from}
use Rattle.cs_item.specs.SummaryField.{summary_at, summary_len}
use Rattle.cs_item.proofs.codec.regions.take_each_region.Given as goal

abbrev pub invariant-loop : goal.invariant-loop
invariant-loop l = record {
  so_far : with_front l.regions (elements_at (beside_from summary_at) (above (λ pair. pair.0)) (l.count - l.counter) l.least l.bytes l.place)
      ≡ elements_at (beside_from summary_at) (above (λ pair. pair.0)) l.count 0 l.bytes l.at;
  ascending : IsByRegion l.regions;
  below : AllByRecursion (λ pair. pair.0 < l.least) l.regions;
  within : l.place ≤ length l.bytes;
  room : l.place ≤ l.at + (4 + summary_len) * l.counter;
}
