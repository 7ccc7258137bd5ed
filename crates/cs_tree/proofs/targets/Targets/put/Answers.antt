use Rattle.std.proofs.Common.{sym, ◌∙◌}
use Rattle.cs_base.specs.Ascending.{IsAt, IsGap}
use Rattle.cs_base.proofs.Ascending.{placed-at, placed-gap, IsOrderedBy-placed}
use Rattle.cs_tree.specs.Route.{IsTarget, target_id}
use Rattle.cs_tree.proofs.targets.Targets.put.Goals as goal

-- the target that was there is written over, and the order stays
pub invariant_of-self : goal.invariant_of-self
invariant_of-self c =
    let x = c.allowed-x.result in
    let items = c.self.inside.targets.items in
    let at : IsAt target_id (target_id x) items c.in-Ok.place = rw (c.self.view_is, ← c.get.ensures.value) c.in-Ok.ensures.found in
    rw (← placed-at target_id x items c.in-Ok.place c.self.invariant.ascending at)
    (IsOrderedBy-placed target_id IsTarget x items c.allowed-x.ensures.allowed c.self.invariant)

-- the new target goes into its gap
pub invariant_of-self-in-Err : goal.invariant_of-self-in-Err
invariant_of-self-in-Err c =
    let x = c.allowed-x.result in
    let items = c.self.inside.targets.items in
    let gap : IsGap target_id (target_id x) items c.in-Err.place = rw (c.self.view_is, ← c.get.ensures.value) c.in-Err.ensures.absent in
    rw (c.in_ok-insert-in-Err.ensures.items, ← placed-gap target_id x items c.in-Err.place gap)
    (IsOrderedBy-placed target_id IsTarget x items c.allowed-x.ensures.allowed c.self.invariant)

-- a target written over is a target placed
pub returns-in-Ok : goal.returns-in-Ok
returns-in-Ok c =
    let x = c.allowed-x.result in
    let items = c.self.inside.targets.items in
    let at : IsAt target_id (target_id x) items c.in-Ok.place = rw (c.self.view_is, ← c.get.ensures.value) c.in-Ok.ensures.found in
    rw (← c.allowed-x.ensures.same, ← c.self.view_is) (sym (placed-at target_id x items c.in-Ok.place c.self.invariant.ascending at))

-- and so is a target put into its gap
pub returns-in_ok-insert-in-Err : goal.returns-in_ok-insert-in-Err
returns-in_ok-insert-in-Err c =
    let x = c.allowed-x.result in
    let items = c.self.inside.targets.items in
    let gap : IsGap target_id (target_id x) items c.in-Err.place = rw (c.self.view_is, ← c.get.ensures.value) c.in-Err.ensures.absent in
    rw (← c.allowed-x.ensures.same, ← c.self.view_is) (c.in_ok-insert-in-Err.ensures.items ∙ sym (placed-gap target_id x items c.in-Err.place gap))
