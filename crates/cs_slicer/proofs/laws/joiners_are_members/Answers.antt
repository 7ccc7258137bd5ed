use Rattle.cs_slicer.proofs.LetIn.{AreMembersOf-turn}
use Rattle.cs_slicer.proofs.laws.joiners_are_members.Goals as goal

-- each was let in, and stays in the merge and in the cut
pub returns : goal.returns
returns c = AreMembersOf-turn
