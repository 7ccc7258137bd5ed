-- a step of equal summaries by an equal head comes to equal ones
use Rattle.std.proofs.Common.{◌≡◌, ◌∙◌, sym}
use Rattle.cs_view.specs.Step.{next_summaries}
use Rattle.cs_core.proofs.SameHeads.{same_heads}
use Rattle.cs_core.proofs.steps.SummaryStep.is_of.Goals as goal

pub returns-then-is_same_head : goal.returns-then-is_same_head
returns-then-is_same_head c = λ yes.
    let step = c.args.self.now in
    let heads : step.head ≡ c.args.head.now = same_heads step.head c.args.head.now (sym c.if-is_same_head.ensures) in
    let lists : step.before ≡ c.args.before.now =
    sym c.as_slice.ensures.value ∙ c.are_alike.ensures.same.0 yes ∙ c.as_slice-then-is_same_head.ensures.value in
    step.made ∙ (λ i. next_summaries (lists i) (heads i))
