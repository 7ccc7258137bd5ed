use Rattle.std.proofs.Common.{◌≡◌, Ok, ◌∙◌}
use Rattle.std.proofs.lemmas.Result.{IfOk-weaker}
use Rattle.cs_base.specs.declared.change.Mode.TheVariants.{Full}
use Rattle.cs_view.specs.Taking.{taken}
use Rattle.cs_lead.specs.Leading.{whole_view}
use Rattle.cs_lead.proofs.WholeViews.{IfOk-map_err, taken-full}
use Rattle.cs_lead.proofs.wholes.view_of.Goals as goal

-- the view is the picture
pub returns-clause-value : goal.returns-clause-value
returns-clause-value c =
    let picture = c.in_ok-picture.picture in
    IfOk-map_err c.take.result c.map_err.result (λ view. view ≡ whole_view c.args.epoch c.args.group.now) _ c.map_err.ensures.cases
    (IfOk-weaker c.take.result (λ view. taken c.args.leader Full picture ≡ Ok view) (λ view. view ≡ whole_view c.args.epoch c.args.group.now)
    (λ view is. taken-full c.args.leader picture view is ∙ c.in_ok-picture.ensures.value) c.take.ensures.ok)
