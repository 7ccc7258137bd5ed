use Rattle.std.proofs.Common.{◌<◌, ◌^◌, ◌∙◌, refl, sym, arith}
use mathlib.Core.Bool.{false≢true}
use Rattle.cs_base.proofs.Numbers.{number_of-is, number_of-none, number-nonempty, number-zero, number-spelt, number-digits}
use Rattle.cs_base.proofs.canonical.read_up_to.Goals as goal

pub returns-then-not-is_trimmed-clause-exact : goal.returns-then-not-is_trimmed-clause-exact
returns-then-not-is_trimmed-clause-exact c =
    let top = c.args.top in
    let text = c.args.text.now in
    let small : top < 2 ^ 64 = omega (arith, c.ranges.top.fits) in
    sym (number_of-none top text (λ n is.
    false≢true (c.if-not-is_trimmed.ensures.1 (number-nonempty top text n small is, number-zero top text n small is))))

pub returns-in_err-number-clause-exact : goal.returns-in_err-number-clause-exact
returns-in_err-number-clause-exact c =
    let top = c.args.top in
    let text = c.args.text.now in
    let small : top < 2 ^ 64 = omega (arith, c.ranges.top.fits) in
    let none = number_of-none top text (λ n is.
    (let digits = number-digits top text n small is in
    c.in_err-number.ensures (digits.0, omega (arith, digits.1, is.within, c.ranges.top.fits)))) in
    c.from_residual.ensures ∙ sym none

pub returns-then-number-top-clause-exact : goal.returns-then-number-top-clause-exact
returns-then-number-top-clause-exact c =
    let top = c.args.top in
    let text = c.args.text.now in
    let small : top < 2 ^ 64 = omega (arith, c.ranges.top.fits) in
    let trimmed = c.if-not-is_trimmed.ensures.0 refl in
    let is = number-spelt top text small c.in_ok-number.ensures.0.0 trimmed.0 trimmed.1
    (omega (arith, c.in_ok-number.ensures.1)) in
    rw c.in_ok-number.ensures.1 (sym (number_of-is top text _ small is))

pub returns-else-number-top-clause-exact : goal.returns-else-number-top-clause-exact
returns-else-number-top-clause-exact c =
    let top = c.args.top in
    let text = c.args.text.now in
    let small : top < 2 ^ 64 = omega (arith, c.ranges.top.fits) in
    sym (number_of-none top text (λ n is.
    omega (arith, (number-digits top text n small is).1, is.within, c.in_ok-number.ensures.1)))
