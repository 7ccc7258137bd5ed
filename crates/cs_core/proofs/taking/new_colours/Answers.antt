use Rattle.std.proofs.Common.{◌≡◌, ◌∙◌, ◌++◌, ℕ, Bool, List, [], ◌∷◌, Vec, Global, true, false, sym, ap}
use Rattle.cs_core.specs.Taking.{is_new}
use Rattle.cs_core.proofs.Colours.{filter_range-kept, filter_range-left}
use Rattle.cs_core.proofs.taking.new_colours.Goals as goal
use Rattle.cs_core.proofs.taking.new_colours.Goals.{then-is_new+in_ok-push, else-is_new}

-- one more colour is new, or isn't
pub loop-colour-preserved : goal.loop-colour-preserved
loop-colour-preserved c =
    let n = c.loop-colour.colour in
    let new : ℕ → Bool = is_new c.args.region c.args.before.now c.args.after.now in
    elim c.if-is_new.branch [
      | then-is_new+in_ok-push w ↦
          let passes : new n ≡ true = sym c.is_new.ensures ∙ w.if-is_new.true in
          ap (λ (v : Vec ℕ Global). v.items) w.new-is
          ∙ (w.in_ok-push.ensures.items
          ∙ (ap (λ (colours : List ℕ). colours ++ n ∷ []) c.loop-colour.invariant
          ∙ sym (filter_range-kept new n passes)))
      | else-is_new w ↦
          let fails : new n ≡ false = sym c.is_new.ensures ∙ w.if-is_new.false in
          ap (λ (v : Vec ℕ Global). v.items) w.new-is ∙ (c.loop-colour.invariant ∙ sym (filter_range-left new n fails))
    ]
