use Rattle.cs_near.specs.Widest.{widest_axis}
use Rattle.cs_tree.proofs.InOrder.{ordered-known}
use Rattle.cs_tree.proofs.sides.put_in_line.Goals as goal

-- keys tell the elements apart, so they have one order
pub returns-clause-own : goal.returns-clause-own
returns-clause-own g c =
    let key = g.P.Keyed.key_of in
    let point = g.P.HasPoint.point_of in
    let rest = c.args.rest.now in
    let order = rw c.widest_of-axis.ensures at c.put_in_order.ensures.order in
    ordered-known key point (widest_axis point rest) rest c.put_in_order.new.points c.requires.own_distinct order

pub returns-clause-others : goal.returns-clause-others
returns-clause-others g c =
    let key = g.P.Keyed.key_of in
    let point = g.P.HasPoint.point_of in
    let order = rw c.widest_of-axis.ensures at c.put_in_order-2.ensures.order in
    ordered-known key point (widest_axis point c.args.rest.now) c.args.others.now c.put_in_order-2.new.points c.requires.others_distinct order
