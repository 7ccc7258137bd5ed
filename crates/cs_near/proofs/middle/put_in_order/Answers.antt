use Rattle.std.proofs.Common.{rules}
use Rattle.std.proofs.lemmas.Fn.{always_returns_same}
use Rattle.cs_near.specs.Middle.{order_pair}
use Rattle.cs_near.proofs.middle.put_in_order.Goals as goal

-- the closure gives the coordinate and the key of each
pub returns-clause-order : goal.returns-clause-order
returns-clause-order g c = record {
  same = c.sort_unstable_by_key.ensures.permutation;
  up = c.sort_unstable_by_key.ensures.sorted (order_pair g.P.Keyed.key_of g.P.HasPoint.point_of c.args.axis)
      (always_returns_same _ _ _ (λ a r h e. search rules));
}
