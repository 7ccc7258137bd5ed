-- without memory for what was decided nothing is done
use Rattle.cs_node.specs.Told.{link_told, log_told}
use Rattle.cs_node.proofs.Called.{memory-acts}
use Rattle.cs_node.proofs.acting.perform.Goals as goal

pub returns-in-Err-clause-carried : goal.returns-in-Err-clause-carried
returns-in-Err-clause-carried g c =
    rw (c.unchanged.ensures.node, c.unchanged.ensures.note, c.prepare.ensures.link, c.prepare.ensures.log)
    (memory-acts c.args.node c.args.effects (link_told g.L.Link c.args.link.now) (log_told g.G.Log c.args.log.now) c.requires.logged)
