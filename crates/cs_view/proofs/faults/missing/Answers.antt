use Rattle.std.proofs.Common.{◌≡◌, true, false, is_some, refl, sym, ap, ◌∙◌}
use Rattle.cs_view.specs.Step.{is_known, part_of}
use Rattle.cs_view.proofs.Finding.{any-found, any-gap, is_some-copied}
use Rattle.cs_view.proofs.faults.missing.Goals as goal

-- the region is known, and has no part
pub returns-in-Ok-clause-is : goal.returns-in-Ok-clause-is
returns-in-Ok-clause-is c =
    let known : is_known c.args.rolls.now c.args.n ≡ true = any-found c.args.n c.args.rolls.now c.in-Ok.place c.requires c.in-Ok.ensures.found in
    let none : is_some (part_of c.args.n c.args.parts.now) ≡ false =
    ap is_some (sym c.get.ensures) ∙ (is_some-copied c.get.result ∙ (sym c.is_some.ensures ∙ c.if-is_some.false)) in
    rw (known, none) refl

-- it isn't known
pub returns-in-Err-clause-is : goal.returns-in-Err-clause-is
returns-in-Err-clause-is c =
    let unknown : is_known c.args.rolls.now c.args.n ≡ false = any-gap c.args.n c.args.rolls.now c.in-Err.field-0 c.in-Err.ensures.absent in
    rw unknown refl
