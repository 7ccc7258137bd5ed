use Rattle.std.proofs.Common.{arith}
use Rattle.census.proofs.RunLemmas.{IsWrittenTo-more}
use Rattle.census.proofs.output.write_all.Goals as goal

pub loop-rest-preserved : goal.loop-rest-preserved
loop-rest-preserved g c = record {
  so_far = IsWrittenTo-more _ c.loop-rest.rest.now _ _ _ c.in_ok-taken.taken c.loop-rest.invariant.so_far c.in_ok-taken.ensures.appends;
  counts = omega (arith, c.in_ok-taken.ensures.counts);
}
