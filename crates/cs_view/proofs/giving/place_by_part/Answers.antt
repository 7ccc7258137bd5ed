use Rattle.std.proofs.Common.{◌≡◌, true, false, is_some, refl, sym, ap, ◌∙◌}
use Rattle.cs_view.specs.Step.{is_known}
use Rattle.cs_view.proofs.Finding.{any-there, is_some-copied}
use Rattle.cs_view.proofs.giving.place_by_part.Goals as goal

-- a region that was merged into a known one gives nothing
pub returns-then-is_some-clause-placed : goal.returns-then-is_some-clause-placed
returns-then-is_some-clause-placed c =
    let known : is_known c.args.rolls.now c.in-Whole.into ≡ true =
    any-there c.in-Whole.into c.args.rolls.now ∙ (ap is_some (sym c.find.ensures) ∙ (is_some-copied c.find.result ∙ sym c.if-is_some.ensures)) in
    rw (c.in-Whole.is, known) refl

-- and one that was merged into another gives its roll
pub returns-in_ok-copy-in-Whole-clause-placed : goal.returns-in_ok-copy-in-Whole-clause-placed
returns-in_ok-copy-in-Whole-clause-placed c =
    let unknown : is_known c.args.rolls.now c.in-Whole.into ≡ false =
    any-there c.in-Whole.into c.args.rolls.now ∙ (ap is_some (sym c.find.ensures) ∙ (is_some-copied c.find.result ∙ sym c.if-is_some.ensures)) in
    rw (c.in-Whole.is, unknown, ← c.in_ok-copy-in-Whole.ensures) c.place_parts-in-Whole.ensures.placed
