use Rattle.cs_drill.proofs.States.{none-drawn}
use Rattle.cs_drill.proofs.draws.Draws.new.Goals as goal

pub returns : goal.returns
returns c = none-drawn c.args.seed
