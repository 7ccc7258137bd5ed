use Rattle.std.proofs.Common.{ℕ, Bool, List, subst, sym}
use Rattle.cs_base.specs.Ascending.{IsAscending}
use Rattle.cs_view.specs.Step.{is_known}
use Rattle.cs_view.proofs.Passing.{IsAscendingBy-kept}
use Rattle.cs_core.proofs.taking.needed.Goals as goal

-- the next one ascends behind those that are known
pub push-requires : goal.push-requires
push-requires c =
    let known : ℕ → Bool = is_known c.args.view.now.rolls in
    let touched : List ℕ = c.as_slice-region-items.result.now in
    let up : IsAscending touched = subst IsAscending (sym c.as_slice-region-items.ensures.value) c.as_slice-region-items.ensures.ascending in
    rw c.loop-region.invariant (IsAscendingBy-kept (λ (n : ℕ). n) known touched c.loop-region.region-index 0 c.loop-region-test.true
    (sym c.if-has_known.ensures) up)
