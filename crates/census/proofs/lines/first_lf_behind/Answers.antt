use Rattle.std.proofs.Common.{rules, ◌≡◌, ◌-◌, None, Some, drop, take, length, ap, sym, ◌∙◌, arith}
use Rattle.std.proofs.lemmas.List.{length-drop, take_all}
use Rattle.census.specs.Lines.{first_lf}
use Rattle.census.proofs.Readers.{lf-behind, none-behind}
use Rattle.census.proofs.lines.first_lf_behind.Goals as goal

pub returns-in_err-place : goal.returns-in_err-place
returns-in_err-place c =
    let rest = drop c.args.clean c.args.text.now in
    let whole : take (length c.args.text.now - c.args.clean) rest ≡ rest =
    take_all (length c.args.text.now - c.args.clean) rest (omega (arith, length-drop c.args.clean c.args.text.now)) in
    let none : c.first_lf.result ≡ None = search rules in
    let given : c.from_residual.result ≡ None = search rules in
    given ∙ sym (none-behind c.args.text.now c.args.clean c.requires.within c.requires.clean
    (ap first_lf (sym whole) ∙ sym c.first_lf.ensures ∙ none))

pub returns : goal.returns
returns c =
    let rest = drop c.args.clean c.args.text.now in
    let whole : take (length c.args.text.now - c.args.clean) rest ≡ rest =
    take_all (length c.args.text.now - c.args.clean) rest (omega (arith, length-drop c.args.clean c.args.text.now)) in
    let some : c.first_lf.result ≡ Some c.in_ok-place.place = search rules in
    sym (lf-behind c.args.text.now c.args.clean c.requires.within c.requires.clean c.in_ok-place.place
    (ap first_lf (sym whole) ∙ sym c.first_lf.ensures ∙ some))
