use Rattle.cs_log.proofs.Left.{all_is_left}
use Rattle.cs_log.proofs.laws.what_is_synced_is_left.Goals as goal

pub returns : goal.returns
returns c = all_is_left
