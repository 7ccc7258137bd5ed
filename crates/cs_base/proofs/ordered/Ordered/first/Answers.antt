use Rattle.cs_base.proofs.Ascending.{IsOrderedBy-take}
use Rattle.cs_base.proofs.ordered.Ordered.first.Goals as goal

-- a front of the list is ordered
pub invariant_of-result : goal.invariant_of-result
invariant_of-result g c =
    rw (c.in_ok-copy_each.ensures, c.deref.ensures.value)
    (IsOrderedBy-take g.T.Keyed.key_of g.T.Keyed.IsAllowed c.min-count.result _ c.self.invariant)
