use Rattle.std.proofs.Common.{◌≡◌, ◌∙◌, ◌+◌, ◌-◌, ◌++◌, ap, append_assoc, arith, rules}
use Rattle.std.specs.List.{range_with_len}
use Rattle.cs_drill.specs.Plan.{booted, each}
use Rattle.cs_drill.specs.declared.plan.Planned.TheVariants as planned
use Rattle.cs_drill.proofs.Lists.{next-number}
use Rattle.cs_drill.proofs.planning.put_live_starts.Goals as goal

pub loop-node-preserved : goal.loop-node-preserved
loop-node-preserved c =
    let node = c.loop-node.node in
    let longer : node - 2 + 1 ≡ node + 1 - 2 = omega (arith, c.loop-node.auto) in
    c.in_ok-push-2.ensures.items
    ∙ next-number (λ k. planned.Event (booted c.args.port k)) 2 (node - 2) node c.push.new.self.items c.loop-node.plan.items _
    (omega (arith, c.loop-node.auto)) c.loop-node.invariant (search rules)
    ∙ ap (λ k. c.push.new.self.items ++ each (booted c.args.port) (range_with_len 2 k)) longer

pub returns : goal.returns
returns c =
    let all : c.loop-node.node - 2 ≡ c.args.nodes - 1 = omega (arith, c.loop-node.auto, c.loop-node-test.false) in
    rw (c.loop-node.invariant, all, c.in_ok-push.ensures.items, c.leader.ensures, c.address_behind.ensures, c.at_distance.ensures)
    (append_assoc c.args.plan.now.items _ _)
