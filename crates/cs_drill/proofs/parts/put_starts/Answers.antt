use Rattle.std.proofs.Common.{◌≡◌, ◌∙◌, ◌*◌, ◌+◌, ◌-◌, ◌++◌, ap, append_assoc, arith, map, rules}
use Rattle.std.specs.List.{range_with_len}
use Rattle.cs_drill.specs.Draws.{state_after}
use Rattle.cs_drill.specs.Schedule.{booted}
use Rattle.cs_drill.proofs.Lists.{next-number}
use Rattle.cs_drill.proofs.parts.put_starts.Goals as goal

pub loop-node-preserved : goal.loop-node-preserved
loop-node-preserved c seed at =
    let node = c.loop-node.node in
    let before = c.loop-node.invariant seed at in
    let later : 3 * (node - 1) + 3 ≡ 3 * (node + 1 - 1) = omega (arith, c.loop-node.auto) in
    let longer : node - 2 + 1 ≡ node + 1 - 2 = omega (arith, c.loop-node.auto) in (
      c.in_ok-push-2.ensures.items
          ∙ next-number (booted c.args.nodes seed) 2 (node - 2) node c.push.new.self.items c.loop-node.events.items _
          (omega (arith, c.loop-node.auto)) before.0 (rw (c.point-in-loop-node.ensures.value seed (3 * (node - 1)) before.1) (search rules))
          ∙ ap (λ k. c.push.new.self.items ++ map (booted c.args.nodes seed) (range_with_len 2 k)) longer,
      c.point-in-loop-node.ensures.state seed (3 * (node - 1)) before.1 ∙ ap (state_after seed) later,
    )

pub returns-clause-value : goal.returns-clause-value
returns-clause-value c seed at =
    let started = (c.loop-node.invariant seed at).0 in
    let all : c.loop-node.node - 2 ≡ c.args.nodes - 1 = omega (arith, c.loop-node.auto, c.loop-node-test.false) in
    rw (started, all, c.in_ok-push.ensures.items, c.leader.ensures, c.address_of.ensures, c.point.ensures.value seed 0 at)
    (append_assoc c.args.events.now.items _ _)

pub returns-clause-state : goal.returns-clause-state
returns-clause-state c seed at =
    let all : 3 * (c.loop-node.node - 1) ≡ 3 * c.args.nodes = omega (arith, c.loop-node.auto, c.loop-node-test.false) in
    (c.loop-node.invariant seed at).1 ∙ ap (state_after seed) all
