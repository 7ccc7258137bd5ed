use Rattle.cs_group.specs.Place.{region_sums}
use Rattle.cs_group.proofs.Again.{judged-again, same-turn}
use Rattle.cs_group.proofs.laws.accepted_again.Goals as goal

-- by the changes, one by one
pub returns-clause-accepted : goal.returns-clause-accepted
returns-clause-accepted c = λ g changes. judged-again (region_sums g.rows) g changes

-- what the turn is read off is the same
pub returns-clause-same : goal.returns-clause-same
returns-clause-same c = same-turn
