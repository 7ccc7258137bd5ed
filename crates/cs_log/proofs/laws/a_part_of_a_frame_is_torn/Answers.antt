use Rattle.cs_log.proofs.Torn.{part_is_torn}
use Rattle.cs_log.proofs.laws.a_part_of_a_frame_is_torn.Goals as goal

pub returns : goal.returns
returns c = part_is_torn
