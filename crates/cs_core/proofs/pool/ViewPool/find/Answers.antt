use Rattle.std.proofs.Common.{◌∙◌, sym}
use Rattle.cs_core.proofs.SameHeads.{same_views}
use Rattle.cs_core.proofs.pool.ViewPool.find.Goals as goal

-- what was found has passed the test
pub returns-in-Ok : goal.returns-in-Ok
returns-in-Ok c =
    let same = same_views c.sight.result.now c.args.view.now (sym c.if-not-is_same.ensures) in
    c.in-Ok.ensures.cases ∙ (sym (c.sight.ensures ∙ c.deref-3.ensures) ∙ same)
