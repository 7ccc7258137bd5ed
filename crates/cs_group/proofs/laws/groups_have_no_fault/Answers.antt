use Rattle.cs_group.proofs.Faultless.{no_fault}
use Rattle.cs_group.proofs.laws.groups_have_no_fault.Goals as goal

-- each test passes
pub returns : goal.returns
returns c = no_fault
