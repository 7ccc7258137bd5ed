use Rattle.std.proofs.Common.{◌≡◌, ◌++◌, IsSomeAnd, List, subst, sym}
use Rattle.cs_machine.specs.Entries.{Entry}
use Rattle.cs_machine.proofs.ReachedHeld.{happens-keeps}
use Rattle.cs_machine.proofs.laws.logs_only_grow.Goals as goal

-- the next world has each node, with what it logged and perhaps more
pub returns : goal.returns
returns c = λ world event id node allowed reached found.
    let next = (happens-keeps world event allowed reached).follows.nodes id node found in
    subst (λ o. IsSomeAnd o (λ later. (later.own ≡ node.own) × (more : List Entry) × (later.entries ≡ node.entries ++ more))) (sym next.found)
    (next.same, next.more, next.longer)
