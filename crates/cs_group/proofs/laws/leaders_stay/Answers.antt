use Rattle.cs_base.specs.Ranges.{IsChange}
use Rattle.cs_group.specs.Taking.{FitsRow}
use Rattle.cs_group.proofs.Bounded.{FitsRow-allowed}
use Rattle.cs_group.proofs.Led.{led-first, led-next}
use Rattle.cs_group.proofs.Lists.{ByRecursion-weaken}
use Rattle.cs_group.proofs.laws.leaders_stay.Goals as goal

-- it stands there alone
pub returns-clause-first : goal.returns-clause-first
returns-clause-first c = led-first

-- no accepted change is about it
pub returns-clause-next : goal.returns-clause-next
returns-clause-next c = λ leader g changes turn is led allowed made.
    led-next leader g changes turn is led (ByRecursion-weaken IsChange FitsRow FitsRow-allowed changes allowed) made
