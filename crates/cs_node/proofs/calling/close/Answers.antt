-- what was decided is carried out
use Rattle.cs_node.proofs.calling.close.Goals as goal

pub returns : goal.returns
returns g c = c.carry_out.ensures _ c.decide_leader-decided.ensures.value
