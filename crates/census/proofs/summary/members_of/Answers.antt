use Rattle.std.proofs.Common.{rules}
use Rattle.census.proofs.Counts.{next-fits}
use Rattle.census.proofs.summary.members_of.Goals as goal

pub overflow_add-members : goal.overflow_add-members
overflow_add-members c =
    let next = next-fits _ _ c.loop-pair.pair-index c.loop-pair.members c.pair-item.result c.known-pair-items.ensures.value
    c.known-pair-items.ensures.ascending c.known-pair-items.ensures.allowed c.loop-pair-test.true c.pair-item.is c.loop-pair.invariant in
    search rules
