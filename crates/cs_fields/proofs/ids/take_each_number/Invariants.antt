use Rattle.std.proofs.Common.{◌≡◌, ◌-◌, ◌+◌, ◌*◌, ◌<◌, ◌≤◌, length}
use Rattle.std.specs.List.{AllByRecursion}
use Rattle.cs_base.specs.Ascending.{IsAscending}
use Rattle.cs_fields.specs.Counted.{elements_at, above}
use Rattle.cs_fields.specs.Numbers.{number_in}
use Rattle.cs_fields.proofs.Loops.{with_front}
use Rattle.cs_fields.proofs.ids.take_each_number.Given as goal

abbrev pub invariant-loop : goal.invariant-loop
invariant-loop l = record {
  so_far : with_front l.numbers (elements_at (λ least. number_in 4 least l.last) (above (λ n. n)) (l.count - l.counter) l.least l.bytes l.place)
      ≡ elements_at (λ least. number_in 4 least l.last) (above (λ n. n)) l.count l.first l.bytes l.at;
  ascending : IsAscending l.numbers;
  below : AllByRecursion (λ n. n < l.least) l.numbers;
  within : l.place ≤ length l.bytes;
  room : l.place ≤ l.at + 4 * l.counter;
}
