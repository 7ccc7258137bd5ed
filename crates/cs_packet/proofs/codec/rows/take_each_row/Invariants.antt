use Rattle.std.proofs.Common.{◌≡◌, ◌-◌, ◌+◌, ◌*◌, ◌≤◌, length}
use Rattle.cs_fields.specs.Counted.{elements_at}
use Rattle.cs_fields.proofs.Loops.{with_front}
use Rattle.cs_packet.specs.RowsField.{place_of, row_after, row_len}
use Rattle.cs_packet.proofs.codec.rows.take_each_row.Given as goal

abbrev pub invariant-loop : goal.invariant-loop
invariant-loop l = record {
  so_far : with_front l.rows (elements_at row_after (λ before row. place_of row) (l.count - l.counter) l.before l.bytes l.place)
      ≡ elements_at row_after (λ before row. place_of row) l.count (0, 0) l.bytes l.at;
  within : l.place ≤ length l.bytes;
  room : l.place ≤ l.at + row_len * l.counter;
}
