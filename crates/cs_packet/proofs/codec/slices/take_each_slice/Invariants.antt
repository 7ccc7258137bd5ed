use Rattle.std.proofs.Common.{◌≡◌, ◌-◌, ◌+◌, ◌*◌, ◌<◌, ◌≤◌, length}
use Rattle.std.specs.List.{AllByRecursion}
use Rattle.cs_base.specs.Ascending.{IsAscendingBy}
use Rattle.cs_fields.specs.Counted.{elements_at, above}
use Rattle.cs_fields.proofs.Loops.{with_front}
use Rattle.cs_packet.specs.SlicesField.{framed_slice_len, region_of_slice, slice_from}
use Rattle.cs_packet.proofs.codec.slices.take_each_slice.Given as goal

abbrev pub invariant-loop : goal.invariant-loop
invariant-loop l = record {
  so_far : with_front l.slices (elements_at slice_from (above region_of_slice) (l.count - l.counter) l.least l.bytes l.place)
      ≡ elements_at slice_from (above region_of_slice) l.count 0 l.bytes l.at;
  ascending : IsAscendingBy region_of_slice l.slices;
  below : AllByRecursion (λ s. region_of_slice s < l.least) l.slices;
  within : l.place ≤ length l.bytes;
  room : l.place ≤ l.at + framed_slice_len * l.counter;
}
