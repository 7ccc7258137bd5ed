use Rattle.std.proofs.Common.{◌∙◌, ◌*◌, ◌+◌, append_assoc}
use Rattle.cs_drill.specs.Limits.{moves}
use Rattle.cs_drill.specs.Schedule as parts
use Rattle.cs_drill.proofs.States.{later}
use Rattle.cs_drill.proofs.parts.put_round.Goals as goal

pub returns-clause-value : goal.returns-clause-value
returns-clause-value c seed before at =
    let drawn = before + 4 * moves in
    let moved = c.in_ok-movers.ensures.state seed before at in
    let leaves = c.id.ensures.state seed drawn moved in
    let asks = c.in_ok-put_each.ensures parts.asked (λ node event is. is.1) in
    rw (
      c.in_ok-push-4.ensures.items,
      c.in_ok-push-3.ensures.items,
      asks,
      c.in_ok-movers.ensures.movers seed before at,
      c.in_ok-put_turn.ensures c.args.nodes c.requires.others,
      c.in_ok-push-2.ensures.items,
      c.in_ok-push.ensures.items,
      c.in_ok-movers.ensures.value seed before at,
      c.settle.ensures,
      c.settle-2.ensures,
      c.asked.ensures,
      c.id-down.ensures.value seed (drawn + 1) leaves,
      c.id.ensures.value seed drawn moved,
    ) (simp append_assoc)

pub returns-clause-state : goal.returns-clause-state
returns-clause-state c seed before at =
    let moved = c.in_ok-movers.ensures.state seed before at in
    let leaves = c.id.ensures.state seed (before + 4 * moves) moved in
    c.id-down.ensures.state seed (before + 4 * moves + 1) leaves ∙ later seed (before + 4 * moves) 1 1
