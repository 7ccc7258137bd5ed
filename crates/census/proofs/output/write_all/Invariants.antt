use Rattle.std.proofs.Common.{◌≤◌, length}
use Rattle.census.proofs.RunLemmas.{IsWrittenTo}
use Rattle.census.proofs.output.write_all.Given as goal

abbrev pub invariant-loop-rest : goal.invariant-loop-rest
invariant-loop-rest g l = record {
  so_far : IsWrittenTo l.text l.rest (g.K.Sink.written l.fn.sink) (g.K.Sink.written l.sink);
  counts : g.K.Sink.faults l.fn.sink ≤ g.K.Sink.faults l.sink;
}

abbrev pub decreases-loop-rest : goal.decreases-loop-rest
decreases-loop-rest g l = length l.rest
