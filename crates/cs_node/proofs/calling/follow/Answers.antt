-- what was decided is carried out
use Rattle.cs_node.proofs.calling.follow.Goals as goal

pub returns : goal.returns
returns g c = c.carry_out.ensures _ c.decide_follower-decided.ensures.value
