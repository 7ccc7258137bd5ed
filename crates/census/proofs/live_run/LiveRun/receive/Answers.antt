use Rattle.census.proofs.Receiving.{received-out, received-stay}
use Rattle.census.proofs.live_run.LiveRun.receive.Goals as goal

pub returns-in_err-receive-clause-stay : goal.returns-in_err-receive-clause-stay
returns-in_err-receive-clause-stay g c = received-stay _ _ _ _ _ _ _ _ c.in_err-receive.ensures.received

pub returns-in_err-receive-clause-out : goal.returns-in_err-receive-clause-out
returns-in_err-receive-clause-out g c = received-out _ _ _ _ _ _ _ _ c.in_err-receive.ensures.received

pub returns-clause-stay : goal.returns-clause-stay
returns-clause-stay g c = received-stay _ _ _ _ _ _ _ _ c.in_ok-receive.ensures.received

pub returns-clause-out : goal.returns-clause-out
returns-clause-out g c = received-out _ _ _ _ _ _ _ _ c.in_ok-receive.ensures.received
