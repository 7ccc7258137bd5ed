use Rattle.cs_near.proofs.Nearness.{one-is_nearest}
use Rattle.cs_near.proofs.laws.one_is_nearest.Goals as goal

-- as the nearest of them with one key for all
pub returns : goal.returns
returns c = one-is_nearest
