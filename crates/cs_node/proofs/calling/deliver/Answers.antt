-- what was decided is carried out
use Rattle.cs_node.proofs.calling.deliver.Goals as goal

pub returns : goal.returns
returns g c = c.carry_out.ensures _ c.deliver-decided.ensures.value
