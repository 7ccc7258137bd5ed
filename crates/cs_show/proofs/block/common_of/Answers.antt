-- what was made is of the view
use Rattle.cs_show.proofs.Commons.{of_its_view}
use Rattle.cs_show.proofs.block.common_of.Goals as goal

pub returns-in_ok-common-in-None : goal.returns-in_ok-common-in-None
returns-in_ok-common-in-None c =
    of_its_view c.in_ok-kept-in-None.field-0 c.in_ok-common-in-None.common.value c.args.view.now c.in_ok-common-in-None.ensures
    c.in_ok-kept-in-None.ensures
