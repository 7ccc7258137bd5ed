use Rattle.cs_projection.proofs.Taken.{takes}
use Rattle.cs_projection.proofs.laws.snapshots_are_taken.Goals as goal

-- no fault comes first, and the kept rolls are those of the projection
pub returns : goal.returns
returns c = takes
