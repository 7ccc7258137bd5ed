use Rattle.std.proofs.Common.{◌∷◌, [], Some, None, refl, ap, ◌∙◌, arith}
use Rattle.std.proofs.lemmas.Bool.Decides.{Decides-eqb}
use Rattle.std.proofs.lemmas.Int.{ints}
use Rattle.std.proofs.lemmas.Slice.Eq.{strip_prefix_is}
use Rattle.cs_base.proofs.Signed.{signed-minus, signed-plain, signed_number_of-is}
use Rattle.cs_base.proofs.canonical.read_i32.Goals as goal

pub returns-in_err-read_up_to-in-None-clause-exact : goal.returns-in_err-read_up_to-in-None-clause-exact
returns-in_err-read_up_to-in-None-clause-exact c =
    let text = c.args.text.now in
    let plain = strip_prefix_is Decides-eqb text (45 ∷ []) None c.in-None.ensures.cases in
    c.from_residual.ensures ∙ signed-plain text None plain c.in_err-read_up_to-in-None.ensures.exact

pub returns-in_err-read_up_to-in-None-clause-only : goal.returns-in_err-read_up_to-in-None-clause-only
returns-in_err-read_up_to-in-None-clause-only c z fits spelt =
    returns-in_err-read_up_to-in-None-clause-exact c ∙ signed_number_of-is _ z (record { fits = fits; spelt = spelt })

pub returns-in-Some-clause-exact : goal.returns-in-Some-clause-exact
returns-in-Some-clause-exact c =
    let text = c.args.text.now in
    let minus = strip_prefix_is Decides-eqb text (45 ∷ []) (Some c.in-Some.size) c.in-Some.ensures.cases in
    rw minus (c.read_below_zero.ensures ∙ signed-minus c.in-Some.size.now _ refl)

pub returns-in-Some-clause-only : goal.returns-in-Some-clause-only
returns-in-Some-clause-only c z fits spelt =
    returns-in-Some-clause-exact c ∙ signed_number_of-is _ z (record { fits = fits; spelt = spelt })

pub returns-in_ok-read_up_to-in-None-clause-exact : goal.returns-in_ok-read_up_to-in-None-clause-exact
returns-in_ok-read_up_to-in-None-clause-exact c =
    let text = c.args.text.now in
    let plain = strip_prefix_is Decides-eqb text (45 ∷ []) None c.in-None.ensures.cases in
    ap Some (omega (arith, ints, c.in_ok-read_up_to-in-None.ensures.within)) ∙ signed-plain text (Some _) plain c.in_ok-read_up_to-in-None.ensures.exact

pub returns-in_ok-read_up_to-in-None-clause-only : goal.returns-in_ok-read_up_to-in-None-clause-only
returns-in_ok-read_up_to-in-None-clause-only c z fits spelt =
    returns-in_ok-read_up_to-in-None-clause-exact c ∙ signed_number_of-is _ z (record { fits = fits; spelt = spelt })
