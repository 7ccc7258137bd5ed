use Rattle.std.proofs.Common.{◌≡◌, ◌+◌, ◌-◌, Some, sym, ap, ◌∙◌, arith}
use Rattle.cs_tree.proofs.Ways.{first_below, way-ends, way-goes_on, way-stops}
use Rattle.cs_tree.proofs.routes.child_towards.Goals as goal

-- the key has no parent
pub returns-in_err-parent : goal.returns-in_err-parent
returns-in_err-parent c =
    let left = c.args.steps - c.loop-step._step in
    let none = sym c.in_err-parent.ensures.value in
    c.from_residual.ensures
    ∙ (sym (way-stops c.args.tree.now.edges c.args.above left (left - 1) c.loop-step.key (omega arith) none) ∙ c.loop-step.invariant)

-- its parent is the one
pub returns-then-parent-above : goal.returns-then-parent-above
returns-then-parent-above c =
    let left = c.args.steps - c.loop-step._step in
    sym (way-ends c.args.tree.now.edges c.args.above left (left - 1) c.loop-step.key c.in_ok-parent.parent (omega arith)
    (sym c.in_ok-parent.ensures.value) c.if-parent-above.true) ∙ c.loop-step.invariant

-- or another one
pub loop-step-preserved : goal.loop-step-preserved
loop-step-preserved c =
    way-goes_on c.args.tree.now.edges c.args.above (c.args.steps - c.loop-step._step) (c.args.steps - (c.loop-step._step + 1)) c.loop-step.key
    c.in_ok-parent.parent (omega arith) (sym c.in_ok-parent.ensures.value) c.if-parent-above.false
    ∙ c.loop-step.invariant

-- the way is at its end
pub returns : goal.returns
returns c =
    let none : c.args.steps - c.loop-step._step ≡ 0 = omega arith in
    ap (λ left. first_below c.args.tree.now.edges c.args.above left (Some c.loop-step.key)) (sym none) ∙ c.loop-step.invariant
