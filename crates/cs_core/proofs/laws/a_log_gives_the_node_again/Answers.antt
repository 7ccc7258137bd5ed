use Rattle.std.proofs.Common.{◌≡◌}
use Rattle.cs_packet.specs.declared.entry.Entry.{Entry}
use Rattle.cs_view.proofs.Placed.{is_there}
use Rattle.cs_core.specs.Decision.{plan_of}
use Rattle.cs_core.specs.Laws.{as_logged}
use Rattle.cs_core.specs.Resume.{resumed_by}
use Rattle.cs_core.proofs.Logged.{call-again}
use Rattle.cs_core.proofs.laws.a_log_gives_the_node_again.Goals as goal

-- each plan that logs something
pub returns : goal.returns
returns c = λ node call entry logs.
    is_there (λ (e : Entry). resumed_by node.own node.following e ≡ as_logged (plan_of node.own node.following call).after)
    (plan_of node.own node.following call).entry entry (call-again node.own node.following call) logs
