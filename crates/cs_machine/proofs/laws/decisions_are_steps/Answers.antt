use Rattle.cs_machine.proofs.CloseRun.{close-step}
use Rattle.cs_machine.proofs.Lifts.{deliver-step}
use Rattle.cs_machine.proofs.OwnRun.{ask-step, ask_leader-step, flush-step, join-step, leave-step, move-step, need-step}
use Rattle.cs_machine.proofs.laws.decisions_are_steps.Goals as goal

-- a packet comes
pub returns-clause-delivers : goal.returns-clause-delivers
returns-clause-delivers c = deliver-step

-- a joining node joins
pub returns-clause-joins : goal.returns-clause-joins
returns-clause-joins c = λ world node reached found joining. join-step world reached node found joining

-- a member wants to leave
pub returns-clause-leaves : goal.returns-clause-leaves
returns-clause-leaves c = λ world node m reached found following. leave-step world reached node found m following

-- a member moves
pub returns-clause-moves : goal.returns-clause-moves
returns-clause-moves c = λ world node m at reached found following point. move-step world reached node found at point m following

-- a member hands on what is pending
pub returns-clause-flushes : goal.returns-clause-flushes
returns-clause-flushes c = λ world node m reached found following. flush-step world reached node found m following

-- a joining node asks the leader for a snapshot
pub returns-clause-asks_leader : goal.returns-clause-asks_leader
returns-clause-asks_leader c = λ world node reached found joining. ask_leader-step world reached node found joining

-- a member asks another node for a snapshot
pub returns-clause-asks : goal.returns-clause-asks
returns-clause-asks c = λ world node m to reached found following. ask-step world reached node found to m following

-- or for a slice
pub returns-clause-needs : goal.returns-clause-needs
returns-clause-needs c = λ world node m to region reached found following allowed.
    need-step world reached node found to region allowed m following

-- the leader closes the epoch
pub returns-clause-closes : goal.returns-clause-closes
returns-clause-closes c = close-step
