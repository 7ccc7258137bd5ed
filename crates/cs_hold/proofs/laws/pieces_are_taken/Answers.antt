use Rattle.cs_hold.proofs.Takes.{keeps, takes}
use Rattle.cs_hold.proofs.laws.pieces_are_taken.Goals as goal

pub returns-clause-takes : goal.returns-clause-takes
returns-clause-takes c region colour bytes held next hold lt few given = takes region colour bytes held next hold lt few given

pub returns-clause-keeps : goal.returns-clause-keeps
returns-clause-keeps c region colour bytes held next hold lt ours all given = keeps region colour bytes held next hold lt ours all given
