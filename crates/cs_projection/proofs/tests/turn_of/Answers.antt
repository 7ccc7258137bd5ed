use Rattle.std.proofs.Common.{[], ◌∷◌, arith, rules}
use Rattle.cs_slicer.proofs.Turns.{IsTurnOf-next}
use Rattle.cs_projection.proofs.tests.turn_of.Goals as goal

-- what is next is a turn
pub returns : goal.returns
returns g c = IsTurnOf-next c.args.group.now (c.args.change ∷ []) _ (search rules) (omega arith) (search rules)
