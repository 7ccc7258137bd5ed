-- the laws of the decision, for this plan
use Rattle.std.proofs.Common.{sym, subst}
use Rattle.cs_node.specs.Acting.{IsDecision}
use Rattle.cs_node.specs.declared.node.Node.TheVariants as nodes
use Rattle.cs_node.proofs.Decided.{IsDecision-leader}
use Rattle.cs_node.proofs.deciding.decide_leader.Goals as goal

pub returns-clause-decision : goal.returns-clause-decision
returns-clause-decision c =
    let leader = c.args.leader.now in
    let call = c.args.call.now in
    subst (IsDecision (nodes.Leader leader)) (sym c.from.ensures)
    (IsDecision-leader leader call c.in_ok-decide.field-0 c.in_ok-decide.ensures.plan c.in_ok-decide.ensures.sound
    (λ entry. c.a_log_gives_the_leader_again.ensures leader call entry c.view-view.ensures.keeps)
    (c.what_is_not_logged_is_as_it_was.ensures.unlogged leader call) (c.what_is_not_logged_is_as_it_was.ensures.logged leader call)
    (c.all_that_resuming_reads_lasts.ensures leader))
