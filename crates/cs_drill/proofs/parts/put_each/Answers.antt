use Rattle.std.proofs.Common.{◌∙◌, refl}
use Rattle.std.proofs.lemmas.List.{take_all}
use Rattle.cs_drill.proofs.Lists.{one-more}
use Rattle.cs_drill.proofs.parts.put_each.Goals as goal

pub loop-node-preserved : goal.loop-node-preserved
loop-node-preserved g c = λ stands_for says.
    c.in_ok-push.ensures.items
    ∙ one-more stands_for c.args.nodes.now c.loop-node.node-index c.node-item.result c.args.items.now.items c.loop-node.items.items
    c.item_of.result c.loop-node-test.true c.node-item.is (c.loop-node.invariant stands_for says) (says _ _ c.item_of.ensures)

pub returns : goal.returns
returns g c = λ stands_for says.
    rw (c.loop-node.invariant stands_for says, take_all c.loop-node.node-index c.args.nodes.now c.loop-node-test.false) refl
