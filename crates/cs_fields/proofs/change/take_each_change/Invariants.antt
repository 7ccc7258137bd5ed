use Rattle.std.proofs.Common.{◌≡◌, ◌-◌, ◌+◌, ◌*◌, ◌≤◌, [], length}
use Rattle.cs_fields.specs.Changes.{change_after, change_len, with_change}
use Rattle.cs_fields.specs.Counted.{elements_at}
use Rattle.cs_fields.proofs.Loops.{with_front}
use Rattle.cs_fields.proofs.change.take_each_change.Given as goal

abbrev pub invariant-loop : goal.invariant-loop
invariant-loop l = record {
  so_far : with_front l.changes (elements_at change_after with_change (l.count - l.counter) l.changes l.bytes l.place)
      ≡ elements_at change_after with_change l.count [] l.bytes l.at;
  within : l.place ≤ length l.bytes;
  room : l.place ≤ l.at + change_len * l.counter;
}
