use Rattle.std.proofs.Common.{◌≡◌, ◌∙◌, Bool, [], length, sym, ap, arith}
use Rattle.std.specs.Prelude.{if◌then◌else◌}
use Rattle.std.proofs.lemmas.Bool.{eq-eqb}
use Rattle.std.proofs.lemmas.Result.{IfOk-weaker}
use Rattle.cs_core.specs.Node.{Following, member}
use Rattle.cs_core.specs.Resume.{resumes_as}
use Rattle.cs_core.specs.Snapshots.{at_view}
use Rattle.cs_core.specs.declared.plan.Resumed.TheVariants as resumed
use Rattle.cs_core.proofs.resume.as_taken.Goals as goal

-- as many rolls are known as the picture has, and the member is what lasts of itself
pub returns : goal.returns
returns c =
    let own = c.args.own.now in
    let rolls = length c.args.view.rolls in
    let all = length c.args.picture.now.rolls in
    let many : rolls ≡ all = omega (arith, ap length c.known.ensures.value) in
    let taken : c.in_ok-member.member ≡ at_view [] c.args.seq c.args.view =
    c.in_ok-member.ensures ∙ (ap (λ pending. at_view pending c.args.seq c.in_ok-view.view.value) c.in_ok-no_pending.ensures
    ∙ ap (at_view [] c.args.seq) c.in_ok-view.ensures) in
    IfOk-weaker c.resumes_as.result _ _ (λ went is. is ∙
    (ap (λ (m : Following). resumed.Next (member own m)) taken
    ∙ sym (ap (λ (b : Bool). if b then resumes_as own (at_view [] c.args.seq c.args.view) else resumed.Breaks) (eq-eqb rolls all many)))) c.resumes_as.ensures
