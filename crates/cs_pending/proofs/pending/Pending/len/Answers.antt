use Rattle.std.proofs.Common.{arith, subst}
use Rattle.std.proofs.lemmas.List.{length-map}
use Rattle.cs_pending.specs.Pending.{IsPending}
use Rattle.cs_pending.proofs.Table.{distinct-keyed}
use Rattle.cs_pending.proofs.pending.Pending.len.Goals as goal

pub returns-clause-keeps : goal.returns-clause-keeps
returns-clause-keeps c =
    let es = c.self.inside.table.entries in
    subst IsPending c.self.view_is (record {
      few = omega (arith, length-map es (λ e. e.1), c.self.invariant.few);
      distinct = distinct-keyed es c.self.invariant.keyed c.len.ensures.unique;
    })
