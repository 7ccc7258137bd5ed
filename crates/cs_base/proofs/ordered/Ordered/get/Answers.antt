use Rattle.std.proofs.Common.{◌≡◌, Some, get_or, ap, sym, subst, ◌∙◌}
use Rattle.cs_base.specs.Ascending.{IsAscendingBy}
use Rattle.cs_base.proofs.Ascending.{find-at, find-gap}
use Rattle.cs_base.proofs.ordered.Ordered.get.Goals as goal

-- the element that was read is the one that is found
pub returns-in-Ok : goal.returns-in-Ok
returns-in-Ok g c =
    let key = g.T.Keyed.key_of in
    let now = c.args.self.now in
    let read : c.index.result.now ≡ get_or now c.in-Ok.place c.index.result.now = rw (← c.self.view_is) c.index.ensures in
    let up = subst (IsAscendingBy key) c.self.view_is c.self.invariant.ascending in
    ap Some read ∙ sym (find-at key c.args.key now c.in-Ok.place _ up c.in-Ok.ensures.found)

-- no element has the key
pub returns-in-Err : goal.returns-in-Err
returns-in-Err g c = sym (find-gap g.T.Keyed.key_of c.args.key c.args.self.now c.in-Err.field-0 c.in-Err.ensures.absent)
