use Rattle.std.proofs.Common.{◌≡◌, Some, get_or, ap, sym, subst, ◌∙◌}
use Rattle.cs_base.specs.Ascending.{IsAscendingBy, IsOrderedBy, IsAt, without_key}
use Rattle.cs_base.proofs.Ascending.{find-at, find-gap, without-at, without-gap, IsOrderedBy-without}
use Rattle.cs_base.proofs.ordered.Ordered.remove.Goals as goal

-- the elements that stay are in order
pub invariant_of-self : goal.invariant_of-self
invariant_of-self g c =
    let key = g.T.Keyed.key_of in
    let items = c.self.inside.items.items in
    let at : IsAt key c.args.key items c.in-Ok.place = rw c.self.view_is c.in-Ok.ensures.found in
    let removed = c.remove.ensures.items ∙ sym (without-at key c.args.key items c.in-Ok.place c.self.invariant.ascending at) in
    subst (IsOrderedBy key g.T.Keyed.IsAllowed) (sym removed)
    (IsOrderedBy-without key g.T.Keyed.IsAllowed c.args.key items c.self.invariant)

-- the element at the place is taken out
pub returns-in-Ok-clause-removed : goal.returns-in-Ok-clause-removed
returns-in-Ok-clause-removed g c =
    let key = g.T.Keyed.key_of in
    let items = c.self.inside.items.items in
    let at : IsAt key c.args.key items c.in-Ok.place = rw c.self.view_is c.in-Ok.ensures.found in
    let removed = c.remove.ensures.items ∙ sym (without-at key c.args.key items c.in-Ok.place c.self.invariant.ascending at) in
    removed ∙ ap (without_key key c.args.key) c.self.view_is

-- and it is the one that is found
pub returns-in-Ok-clause-found : goal.returns-in-Ok-clause-found
returns-in-Ok-clause-found g c =
    let key = g.T.Keyed.key_of in
    let now = c.args.self.now in
    let read : c.remove.result ≡ get_or now c.in-Ok.place c.remove.result = rw (← c.self.view_is) c.remove.ensures.value in
    let up = subst (IsAscendingBy key) c.self.view_is c.self.invariant.ascending in
    ap Some read ∙ sym (find-at key c.args.key now c.in-Ok.place _ up c.in-Ok.ensures.found)

-- no element has the key, so all stay
pub returns-in-Err-clause-removed : goal.returns-in-Err-clause-removed
returns-in-Err-clause-removed g c =
    sym (without-gap g.T.Keyed.key_of c.args.key c.args.self.now c.in-Err.field-0 c.in-Err.ensures.absent)

-- and none is found
pub returns-in-Err-clause-found : goal.returns-in-Err-clause-found
returns-in-Err-clause-found g c =
    sym (find-gap g.T.Keyed.key_of c.args.key c.args.self.now c.in-Err.field-0 c.in-Err.ensures.absent)
