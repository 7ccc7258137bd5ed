use Rattle.std.proofs.Common.{◌≡◌, ◌++◌, OnOk, append_assoc, arith, map, subst}
use Rattle.cs_script.specs.declared.event.Event.TheVariants.{Print}
use Rattle.cs_drill.specs.Schedule as parts
use Rattle.cs_drill.proofs.Lists.{from-the-first}
use Rattle.cs_drill.proofs.parts.put_ends.Goals as goal

pub returns : goal.returns
returns c =
    let asks = c.in_ok-put_each.ensures parts.asked (λ node event is. is.1) in
    let prints = c.put_each-2.ensures Print (λ node event is. is.1) in
    let old = c.args.events.now.items in
    let first = map parts.asked c.args.others.now in
    let before : c.push-2.new.self.items ++ map Print c.args.others.now ≡ old ++ parts.ends c.args.nodes =
    rw (
      c.in_ok-push-2.ensures.items,
      c.in_ok-push.ensures.items,
      asks,
      c.requires.others,
      c.settle.ensures,
      c.leader.ensures,
      from-the-first c.args.nodes (omega (arith, c.requires.nodes)),
    ) (simp append_assoc) in
    subst (λ all. OnOk c.put_each-2.result (c.put_each-2.new.items.items ≡ all)) before prints
