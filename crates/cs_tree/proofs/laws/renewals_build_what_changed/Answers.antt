use Rattle.cs_tree.proofs.Quiet.{none-at_all, of-one_region}
use Rattle.cs_tree.proofs.laws.renewals_build_what_changed.Goals as goal

pub returns-clause-same : goal.returns-clause-same
returns-clause-same c = none-at_all

pub returns-clause-region : goal.returns-clause-region
returns-clause-region c = of-one_region
