use Rattle.std.proofs.Common.{ℕ, List, Option, ap, ◌∙◌, not, is_some}
use Rattle.std.specs.List.{find, fold}
use Rattle.cs_base.specs.Ascending.{placed_by}
use Rattle.cs_roll.specs.Sight.{at_region, Summaries}
use Rattle.cs_view.specs.declared.fault.ViewFault.TheVariants as faults
use Rattle.cs_view.proofs.Faultless.{first_found}
use Rattle.cs_view.proofs.faults.check_regions.Goals as goal

-- the first region that isn't listed
pub returns-in-Some-clause-fault : goal.returns-in-Some-clause-fault
returns-in-Some-clause-fault c =
    let unlisted : Summaries → List ℕ → Option ℕ = λ summaries regions. find (λ r. not (is_some (at_region r summaries))) regions in
    let put : List ℕ → ℕ → List ℕ = λ before n. placed_by (λ (m : ℕ). m) n before in
    let regions : List ℕ = fold put c.args.head.now.dropped c.args.head.now.touched in
    first_found faults.Region c.in-Some.region.now (unlisted c.args.view.now.summaries regions)
    (c.in-Some.ensures ∙ (ap (λ summaries. unlisted summaries c.as_slice-3.result.now) c.as_slice-2.ensures.value
    ∙ ap (unlisted c.args.view.now.summaries)
    (c.as_slice-3.ensures.value ∙ (c.in_ok-regions.ensures ∙ ap (fold put c.args.head.now.dropped) c.as_slice.ensures.value))))
