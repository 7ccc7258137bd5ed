use Rattle.std.proofs.Common.{◌≡◌, ◌∙◌, IfOk, sym, ap, subst}
use Rattle.cs_view.specs.Step.{leaves_all}
use Rattle.cs_view.proofs.Quiet.{same-rolls}
use Rattle.cs_view.proofs.giving.next_rolls.Goals as goal

-- a head that leaves the known regions leaves their rolls
pub returns-then-leaves_all : goal.returns-then-leaves_all
returns-then-leaves_all c =
    subst (λ rolls. IfOk c.copy.result (λ next. next ≡ rolls))
    (sym (same-rolls c.args.rolls.now c.args.head.now c.args.parts.now c.as_slice.ensures.ascending
    (ap (leaves_all c.args.head.now) (sym c.as_slice.ensures.value) ∙ sym c.leaves_all.ensures ∙ c.if-leaves_all.true))) c.copy.ensures
