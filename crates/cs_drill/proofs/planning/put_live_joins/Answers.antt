use Rattle.std.proofs.Common.{append_assoc, rules}
use Rattle.cs_script.specs.declared.event.Event.TheVariants.{Join}
use Rattle.cs_drill.specs.declared.plan.Planned.TheVariants as planned
use Rattle.cs_drill.proofs.planning.put_live_joins.Goals as goal

pub returns : goal.returns
returns c nodes are =
    rw (c.in_ok-push.ensures.items, c.in_ok-put_each.ensures (λ node. planned.Event (Join node)) (λ node item is. search rules), are)
    (append_assoc c.args.plan.now.items _ _)
