use Rattle.cs_machine.specs.Happens.{happens}
use Rattle.cs_machine.proofs.Contents.{bytes-later, bytes_sent-rises, entries-later}
use Rattle.cs_machine.proofs.Follows.{restored-later}
use Rattle.cs_machine.proofs.ReachedHeld.{happens-keeps}
use Rattle.cs_machine.proofs.laws.contents_stay.Goals as goal

-- the next world has the groups so far
pub returns-clause-groups : goal.returns-clause-groups
returns-clause-groups c = λ world event leader epoch allowed reached leads so_far.
    ((happens-keeps world event allowed reached).follows.contents leader leads).group epoch so_far

-- and what was sent is of them
pub returns-clause-bytes : goal.returns-clause-bytes
returns-clause-bytes c = λ world event allowed reached.
    bytes-later world reached (happens world event).world (happens-keeps world event allowed reached).follows

-- and there are as many of them or more
pub returns-clause-sent : goal.returns-clause-sent
returns-clause-sent c = λ world event allowed reached.
    bytes_sent-rises world (happens world event).world reached (happens-keeps world event allowed reached)

-- and each node's entries say what they said
pub returns-clause-entries : goal.returns-clause-entries
returns-clause-entries c = λ world event id node allowed reached found.
    entries-later world reached (happens world event).world (happens-keeps world event allowed reached).follows id node found

-- so they lead to what they led to
pub returns-clause-restored : goal.returns-clause-restored
returns-clause-restored c = λ world event id node allowed reached found.
    let is = reached.nodes id node found in
    restored-later world (happens world event).world (happens-keeps world event allowed reached).follows is.leader is.led node.own node.entries
    is.entries
