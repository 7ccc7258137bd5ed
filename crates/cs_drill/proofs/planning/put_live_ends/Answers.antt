use Rattle.std.proofs.Common.{◌≡◌, ◌++◌, OnOk, append_assoc, arith, map, subst, rules}
use Rattle.cs_script.specs.declared.event.Event.TheVariants.{Print}
use Rattle.cs_drill.specs.Plan as parts
use Rattle.cs_drill.specs.Schedule.{asked}
use Rattle.cs_drill.specs.declared.plan.Planned.TheVariants as planned
use Rattle.cs_drill.proofs.Lists.{from-the-first}
use Rattle.cs_drill.proofs.planning.put_live_ends.Goals as goal

pub returns : goal.returns
returns c =
    let asks = c.in_ok-put_each.ensures (λ node. planned.Event (asked node)) (λ node item is. search rules) in
    let prints = c.put_each-2.ensures (λ node. planned.Event (Print node)) (λ node item is. search rules) in
    let old = c.args.plan.now.items in
    let before : c.push-2.new.self.items ++ map (λ node. planned.Event (Print node)) c.args.others.now ≡ old ++ parts.live_ends c.args.nodes =
    rw (
      c.in_ok-push-2.ensures.items,
      c.in_ok-push.ensures.items,
      asks,
      c.requires.others,
      c.leader.ensures,
      from-the-first c.args.nodes (omega (arith, c.requires.nodes)),
    ) (simp append_assoc) in
    subst (λ all. OnOk c.put_each-2.result (c.put_each-2.new.items.items ≡ all)) before prints
