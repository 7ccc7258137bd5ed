use Rattle.cs_log.proofs.Readings.{frames_are_found}
use Rattle.cs_log.proofs.laws.frames_are_found.Goals as goal

pub returns : goal.returns
returns c = frames_are_found
