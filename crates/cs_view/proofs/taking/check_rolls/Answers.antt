use Rattle.std.proofs.Common.{◌≡◌, ℕ, Bool, true, false, List, Some, not, refl, sym, ap, ◌∙◌}
use Rattle.std.specs.List.{find}
use Rattle.cs_base.specs.declared.member.Member.{Member}
use Rattle.cs_view.specs.Taking.{is_listed}
use Rattle.cs_view.specs.declared.fault.ViewFault.TheVariants as faults
use Rattle.cs_view.proofs.Faultless.{first_found}
use Rattle.cs_view.proofs.Passing.{find_here, find_none_more}
use Rattle.cs_view.proofs.taking.check_rolls.Goals as goal

-- the rolls before this one are listed
pub returns-then-not-branch-clause-fault : goal.returns-then-not-branch-clause-fault
returns-then-not-branch-clause-fault c =
    let test : ℕ × List Member → Bool = λ pair. not (is_listed c.args.summaries.now pair) in
    let unlisted : is_listed c.args.summaries.now c.pair-item.result ≡ false = sym c.in_ok-is_listed.ensures ∙ c.if-not-branch.true in
    first_found (λ (pair : ℕ × List Member). faults.Roll pair.0) c.pair-item.result (find test c.args.rolls.now)
    (ap Some c.pair-item.is ∙ sym (find_here test c.args.rolls.now c.loop-pair.pair-index c.pair-item.result c.loop-pair-test.true c.loop-pair.invariant
    (rw (← c.pair-item.is, unlisted) refl)))

pub loop-pair-preserved : goal.loop-pair-preserved
loop-pair-preserved c =
    let test : ℕ × List Member → Bool = λ pair. not (is_listed c.args.summaries.now pair) in
    let listed : is_listed c.args.summaries.now c.pair-item.result ≡ true = sym c.in_ok-is_listed.ensures ∙ c.if-not-branch.false in
    find_none_more test c.args.rolls.now c.loop-pair.pair-index c.pair-item.result c.loop-pair-test.true c.loop-pair.invariant
    (rw (← c.pair-item.is, listed) refl)
