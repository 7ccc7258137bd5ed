use Rattle.cs_slicer.proofs.Turns.{IsTurnOf-next}
use Rattle.cs_projection.proofs.laws.next_is_a_turn.Goals as goal

-- the accepted changes are distinct, few, and lead there again
pub returns : goal.returns
returns c = IsTurnOf-next
