-- without memory for the decision nothing is done, whatever it would have been
use Rattle.cs_node.specs.Told.{link_told, log_told}
use Rattle.cs_node.proofs.Called.{memory-acts}
use Rattle.cs_node.proofs.acting.carry_out_on.Goals as goal

pub returns-in-Err-clause-carried : goal.returns-in-Err-clause-carried
returns-in-Err-clause-carried g c = λ effects decided.
    rw (c.unchanged.ensures.node, c.unchanged.ensures.note)
    (memory-acts c.args.node effects (link_told g.L.Link c.args.link.now) (log_told g.G.Log c.args.log.now) c.requires.logged)
