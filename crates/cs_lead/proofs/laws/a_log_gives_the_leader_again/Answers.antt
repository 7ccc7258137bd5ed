use Rattle.std.proofs.Common.{◌≡◌}
use Rattle.cs_packet.specs.declared.entry.Entry.{Entry}
use Rattle.cs_view.proofs.Placed.{is_there}
use Rattle.cs_lead.specs.Decision.{plan_of}
use Rattle.cs_lead.specs.Laws.{as_logged}
use Rattle.cs_lead.specs.Resume.{resumed_by}
use Rattle.cs_lead.proofs.Logged.{call-again}
use Rattle.cs_lead.proofs.laws.a_log_gives_the_leader_again.Goals as goal

-- each plan that logs something
pub returns : goal.returns
returns c = λ leader call entry is logs.
    is_there (λ (e : Entry). resumed_by leader e ≡ as_logged (plan_of leader call).after)
    (plan_of leader call).entry entry (call-again leader call is) logs
