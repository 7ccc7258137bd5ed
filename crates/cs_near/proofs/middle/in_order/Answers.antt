use Rattle.std.proofs.Common.{◌≡◌, length, drop, arith}
use Rattle.std.proofs.lemmas.List.{take_at}
use Rattle.cs_near.proofs.middle.in_order.Goals as goal

-- the list holds what was put in order
pub returns-clause-order : goal.returns-clause-order
returns-clause-order g c =
    let old = c.in_ok-ordered.ordered in
    let new = c.put_in_order.new.points in
    let len : length new ≡ old.len = omega (arith, c.put_in_order.ensures.len, c.deref_mut.ensures.len, old.ok.0) in
    rw (take_at new (drop (length new) old.items) old.len len, ← c.in_ok-ordered.ensures.items, ← c.deref_mut.ensures.value) c.put_in_order.ensures.order
