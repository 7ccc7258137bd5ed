use Rattle.std.proofs.Common.{◌≡◌, true, sym, ap, ◌∙◌}
use Rattle.cs_roll.specs.Sight.{Rolls}
use Rattle.cs_view.specs.Step.{next_rolls}
use Rattle.cs_view.specs.Taking.{few_members}
use Rattle.cs_view.specs.View.{kept}
use Rattle.cs_view.proofs.Faultless.{IsView-stepped}
use Rattle.cs_view.proofs.view.View.apply_with.Goals as goal

-- what a view becomes by a step without a fault is a view
pub invariant_of-result : goal.invariant_of-result
invariant_of-result c =
    let view = c.self.inside.picture in
    let rolls : Rolls = kept c.args.me c.args.mode (next_rolls view.rolls c.args.head.now c.args.parts.now) in
    let same : c.in_ok-kept_rolls.field-0 ≡ rolls =
    c.in_ok-kept_rolls.ensures ∙ ap (kept c.args.me c.args.mode) c.in_ok-next.ensures.rolls in
    let few : few_members rolls ≡ true = rw (← same) (sym c.if-not-few_members.ensures) in
    rw (c.in_ok-next.ensures.summaries, same)
    (IsView-stepped c.args.me c.args.mode view c.args.head.now c.args.parts.now c.in_ok-next.ensures.faultless few)
