-- What receiving does to the link of a node, by what the link answers.
use Rattle.std.specs.Prelude.{◌≡◌, ℕ, ◌≤◌, List, Option, None, IfSome, Result, Ok, IfOk, OnOk, OnErr}
use Rattle.cs_link.specs.Received.{AreSmall, IsNext, IsNothing, dry_after, left_waiting, most_datagram, taken_after}
use Rattle.cs_link.specs.declared.link.LinkFailed.{LinkFailed}
use Rattle.cs_log.specs.Faults.{HasRisen}
use Rattle.cs_node.specs.Told.{LinkTold}

-- the next datagram is in the front of the buffer, where one was waiting, and waits no more; what was sent stays
pub record HasReceived (before : LinkTold) (buffer : List ℕ) (answer : Result (Option ℕ) LinkFailed) (now : LinkTold)
    : Type 0 where
  pub size : IfOk answer (λ got. IfSome got (λ n. n ≤ most_datagram))
  pub next : IfOk answer (λ got. IfSome got (λ n. IsNext n buffer before.waiting))
  pub none : answer ≡ Ok None → IsNothing before.waiting
  pub small : AreSmall before.waiting
  pub waiting : now.waiting ≡ left_waiting answer before.waiting
  pub sent : now.sent ≡ before.sent
  pub counts : before.faults ≤ now.faults
  pub quiet : OnOk answer (now.faults ≡ before.faults)
  pub failed : OnErr answer (HasRisen before.faults now.faults)
  pub taken : now.taken ≡ taken_after answer before.taken
  pub dry : now.dry ≡ dry_after answer before.dry
