use Rattle.cs_near.proofs.Nearness.{IsAtMostAsFar-trans}
use Rattle.cs_near.proofs.laws.distances_are_ordered.Goals as goal

-- multiplied out and divided by the square of the middle one's count
pub returns-clause-transitive : goal.returns-clause-transitive
returns-clause-transitive c = λ from a b d valid. IsAtMostAsFar-trans from a b d valid.some
