use Rattle.std.proofs.Common.{ap, subst, sym}
use Rattle.std.proofs.lemmas.Result.{err_from_is_err_and}
use Rattle.cs_pending.specs.declared.offer.Counts.{Counts}
use Rattle.cs_pending.proofs.Offers.{AreOffered, AreOffered-all, AreOffered-front, AreOffered-more, AreOffered-none}
use Rattle.cs_pending.proofs.pending.Pending.offer_all.Goals as goal

pub loop-change-init : goal.loop-change-init
loop-change-init c =
    subst (λ (counts : Counts). AreOffered c.args.self.now c.args.changes.now c.args.self.now counts 0) (sym c.new-counts.ensures)
    (AreOffered-none c.args.self.now c.args.changes.now)

-- one more offer
pub loop-change-preserved : goal.loop-change-preserved
loop-change-preserved c =
    AreOffered-more _ _ _ _ _ _ _ c.change-item.result c.in_ok-offer_one.field-0
    c.loop-change.invariant c.loop-change-test.true c.change-item.is
    c.in_ok-offer_one.ensures.after c.in_ok-offer_one.ensures.answer c.count.ensures

-- all offers
pub returns-clause-answer : goal.returns-clause-answer
returns-clause-answer c = sym (ap (λ s. s.1) (AreOffered-all _ _ _ _ _ c.loop-change.invariant c.loop-change-test.false))

pub returns-clause-after : goal.returns-clause-after
returns-clause-after c = sym (ap (λ s. s.0) (AreOffered-all _ _ _ _ _ c.loop-change.invariant c.loop-change-test.false))

-- no memory for one of them
pub returns-in_err-offer_one-clause-err : goal.returns-in_err-offer_one-clause-err
returns-in_err-offer_one-clause-err c =
    let p = err_from_is_err_and c.from_residual.result c.from_residual.ensures.1 in
    rw p.1 (AreOffered-front _ _ _ _ _ _ c.loop-change.invariant c.loop-change-test.true c.in_err-offer_one.ensures.err)
