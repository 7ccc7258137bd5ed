use Rattle.std.proofs.Common.{◌≡◌, Some, get_or, ap, sym, subst, ◌∙◌}
use Rattle.cs_base.specs.Ascending.{IsAscendingBy, IsAt, IsGap, placed_by}
use Rattle.cs_base.proofs.Ascending.{find-at, find-gap, placed-at, placed-gap, IsOrderedBy-placed}
use Rattle.cs_base.proofs.ordered.Ordered.put.Goals as goal

-- the element that was there is written over, and the order stays
pub invariant_of-self : goal.invariant_of-self
invariant_of-self g c =
    let key = g.T.Keyed.key_of in
    let x = c.args.x in
    let items = c.self.inside.items.items in
    let at : IsAt key (key x) items c.in-Ok.place = rw (c.self.view_is, ← c.key.ensures.value) c.in-Ok.ensures.found in
    rw (c.replace.ensures.after, ← placed-at key x items c.in-Ok.place c.self.invariant.ascending at)
    (IsOrderedBy-placed key g.T.Keyed.IsAllowed x items c.key.ensures.allowed c.self.invariant)

-- the new element goes into its gap
pub invariant_of-self-in-Err : goal.invariant_of-self-in-Err
invariant_of-self-in-Err g c =
    let key = g.T.Keyed.key_of in
    let x = c.args.x in
    let items = c.self.inside.items.items in
    let gap : IsGap key (key x) items c.in-Err.place = rw (c.self.view_is, ← c.key.ensures.value) c.in-Err.ensures.absent in
    rw (c.in_ok-insert-in-Err.ensures.items, ← placed-gap key x items c.in-Err.place gap)
    (IsOrderedBy-placed key g.T.Keyed.IsAllowed x items c.key.ensures.allowed c.self.invariant)

-- an element written over is an element placed
pub returns-in-Ok-clause-placed : goal.returns-in-Ok-clause-placed
returns-in-Ok-clause-placed g c =
    let key = g.T.Keyed.key_of in
    let x = c.args.x in
    let items = c.self.inside.items.items in
    let at : IsAt key (key x) items c.in-Ok.place = rw (c.self.view_is, ← c.key.ensures.value) c.in-Ok.ensures.found in
    rw c.replace.ensures.after (sym (placed-at key x items c.in-Ok.place c.self.invariant.ascending at) ∙ ap (placed_by key x) c.self.view_is)

-- the element that was there is the one that is found
pub returns-in-Ok-clause-before : goal.returns-in-Ok-clause-before
returns-in-Ok-clause-before g c =
    let key = g.T.Keyed.key_of in
    let x = c.args.x in
    let now = c.args.self.now in
    let at : IsAt key (key x) now c.in-Ok.place = rw (← c.key.ensures.value) c.in-Ok.ensures.found in
    let was : c.index_mut.result.now ≡ get_or now c.in-Ok.place c.index_mut.result.now = rw (← c.self.view_is) c.index_mut.ensures.value in
    let up = subst (IsAscendingBy key) c.self.view_is c.self.invariant.ascending in
    ap Some (c.replace.ensures.value ∙ was) ∙ sym (find-at key (key x) now c.in-Ok.place _ up at)

-- an element put into its gap is an element placed
pub returns-in_ok-insert-in-Err-clause-placed : goal.returns-in_ok-insert-in-Err-clause-placed
returns-in_ok-insert-in-Err-clause-placed g c =
    let key = g.T.Keyed.key_of in
    let x = c.args.x in
    let items = c.self.inside.items.items in
    let gap : IsGap key (key x) items c.in-Err.place = rw (c.self.view_is, ← c.key.ensures.value) c.in-Err.ensures.absent in
    c.in_ok-insert-in-Err.ensures.items ∙ (sym (placed-gap key x items c.in-Err.place gap) ∙ ap (placed_by key x) c.self.view_is)

-- none was there
pub returns-in_ok-insert-in-Err-clause-before : goal.returns-in_ok-insert-in-Err-clause-before
returns-in_ok-insert-in-Err-clause-before g c =
    let key = g.T.Keyed.key_of in
    let x = c.args.x in
    let now = c.args.self.now in
    let gap : IsGap key (key x) now c.in-Err.place = rw (← c.key.ensures.value) c.in-Err.ensures.absent in
    sym (find-gap key (key x) now c.in-Err.place gap)
