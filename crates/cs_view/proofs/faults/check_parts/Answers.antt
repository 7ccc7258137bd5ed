use Rattle.std.proofs.Common.{ℕ, List, Option, ap, ◌∙◌, not, is_some, ◌&&◌}
use Rattle.std.specs.List.{find}
use Rattle.cs_base.specs.declared.member.Member.{Member}
use Rattle.cs_view.specs.Step.{is_known, part_of}
use Rattle.cs_view.specs.declared.fault.ViewFault.TheVariants as faults
use Rattle.cs_view.proofs.Faultless.{first_found}
use Rattle.cs_view.proofs.faults.check_parts.Goals as goal

-- the first known region without a part
pub returns-in-Some-clause-fault : goal.returns-in-Some-clause-fault
returns-in-Some-clause-fault c =
    let missing : List (ℕ × List Member) → List ℕ → Option ℕ =
    λ rolls touched. find (λ r. is_known rolls r && not (is_some (part_of r c.args.parts.now))) touched in
    first_found faults.Missing c.in-Some.region (missing c.args.view.now.rolls c.args.head.now.touched)
    (c.in-Some.ensures ∙ (ap (λ rolls. missing rolls c.as_slice-2.result.now) c.as_slice.ensures.value
    ∙ ap (missing c.args.view.now.rolls) c.as_slice-2.ensures.value))
