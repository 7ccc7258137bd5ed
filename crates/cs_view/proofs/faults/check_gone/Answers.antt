use Rattle.std.proofs.Common.{ℕ, ap, ◌∙◌, not, List}
use Rattle.std.specs.List.{find}
use Rattle.cs_base.specs.declared.member.Member.{Member}
use Rattle.cs_view.specs.Faults.{fits_part}
use Rattle.cs_view.specs.declared.fault.ViewFault.TheVariants as faults
use Rattle.cs_view.proofs.Faultless.{first_found}
use Rattle.cs_view.proofs.faults.check_gone.Goals as goal

-- the first region whose part doesn't fit
pub returns-in-Some-clause-fault : goal.returns-in-Some-clause-fault
returns-in-Some-clause-fault c =
    let misfit : List (ℕ × List Member) → _ = find (λ (pair : ℕ × List Member). not (fits_part c.args.head.now c.args.parts.now pair)) in
    first_found (λ (pair : ℕ × List Member). faults.Part pair.0) c.in-Some.pair.now (misfit c.args.view.now.rolls)
    (c.in-Some.ensures ∙ ap misfit c.as_slice.ensures.value)
