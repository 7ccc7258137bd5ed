-- the digest that was made is that of the view
use Rattle.std.proofs.Common.{◌∙◌}
use Rattle.cs_show.proofs.Commons.{of_its_view}
use Rattle.cs_show.proofs.block.digest_by.Goals as goal

pub returns-in_ok-common-in-None : goal.returns-in_ok-common-in-None
returns-in_ok-common-in-None c =
    (of_its_view c.in_ok-new-in-None.field-0 c.deref-in-None.result.now c.args.view.now
    (c.deref-in-None.ensures ∙ c.in_ok-common-in-None.ensures) c.in_ok-new-in-None.ensures).2
