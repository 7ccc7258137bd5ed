-- where a seat is first, a node is there
use Rattle.std.proofs.Common.{sym, ◌∙◌}
use Rattle.cs_world.proofs.AloneSingle.{some-of}
use Rattle.cs_world.proofs.single.Single.is_started.Goals as goal

pub returns-clause-some : goal.returns-clause-some
returns-clause-some g c = λ started.
    let x = some-of c.first.result (sym c.is_some.ensures ∙ started) in (x.0, c.first.ensures.some x.0 x.1)
