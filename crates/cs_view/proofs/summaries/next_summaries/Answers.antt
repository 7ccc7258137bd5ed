use Rattle.std.proofs.Common.{◌≡◌, IfOk, sym, subst}
use Rattle.cs_view.proofs.Quiet.{same-summaries}
use Rattle.cs_view.proofs.summaries.next_summaries.Goals as goal

-- a head that changes no summary leaves them
pub returns-then-is_empty-2 : goal.returns-then-is_empty-2
returns-then-is_empty-2 c =
    subst (λ summaries. IfOk c.copy.result (λ next. next ≡ summaries))
    (sym (same-summaries c.args.summaries.now c.args.head.now (c.is_empty.ensures.0 c.if-is_empty.true)
    (c.is_empty-then-is_empty.ensures.0 c.if-is_empty-2.true))) c.copy.ensures
