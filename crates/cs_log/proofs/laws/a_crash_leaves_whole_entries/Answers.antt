use Rattle.cs_log.proofs.Left.{whole_entries_are_left}
use Rattle.cs_log.proofs.laws.a_crash_leaves_whole_entries.Goals as goal

pub returns : goal.returns
returns c = whole_entries_are_left
