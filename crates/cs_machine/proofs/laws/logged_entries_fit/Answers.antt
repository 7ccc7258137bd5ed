use Rattle.cs_machine.proofs.Contents.{entries-formed}
use Rattle.cs_machine.proofs.laws.logged_entries_fit.Goals as goal

-- each node's entries are
pub returns : goal.returns
returns c = λ world id node reached found. entries-formed world reached id node found
