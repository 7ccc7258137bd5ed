use Rattle.cs_machine.proofs.Reached.{IsReached-empty}
use Rattle.cs_machine.proofs.ReachedHeld.{happens-keeps}
use Rattle.cs_machine.proofs.laws.reached_worlds.Goals as goal

-- nothing was sent, and nobody is there
pub returns-clause-first : goal.returns-clause-first
returns-clause-first c = IsReached-empty

-- each event keeps what every reached world has
pub returns-clause-next : goal.returns-clause-next
returns-clause-next c = λ world event allowed reached. (happens-keeps world event allowed reached).reached
