use Rattle.cs_lead.proofs.GroupTargets.{starts-at_members}
use Rattle.cs_lead.proofs.laws.pieces_start_at_members.Goals as goal

-- what the leader sees are members of its group
pub returns : goal.returns
returns c = starts-at_members
