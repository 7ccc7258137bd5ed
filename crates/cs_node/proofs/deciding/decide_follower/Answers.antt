-- the laws of the decision, for this plan
use Rattle.std.proofs.Common.{sym, subst}
use Rattle.cs_node.specs.Acting.{IsDecision}
use Rattle.cs_node.specs.declared.node.Node.TheVariants as nodes
use Rattle.cs_node.proofs.Decided.{IsDecision-follower}
use Rattle.cs_node.proofs.deciding.decide_follower.Goals as goal

pub returns-clause-decision : goal.returns-clause-decision
returns-clause-decision c =
    let node = c.args.node.now in
    let call = c.args.call.now in
    subst (IsDecision (nodes.Follower node)) (sym c.from.ensures)
    (IsDecision-follower node call c.in_ok-decide.field-0 c.in_ok-decide.ensures.plan c.in_ok-decide.ensures.sound
    (c.a_log_gives_the_node_again.ensures node call) (c.what_is_not_logged_is_as_it_was.ensures.unlogged node call)
    (c.what_is_not_logged_is_as_it_was.ensures.logged node call) (c.all_that_resuming_reads_lasts.ensures node))
