use Rattle.std.proofs.Common.{◌<◌, length, ap, sym, ◌∙◌, Some, arith}
use Rattle.std.proofs.lemmas.List.Sorted.{length_permutation}
use Rattle.cs_near.proofs.Medians.{placed-known}
use Rattle.cs_near.proofs.middle.middle_on.Goals as goal

-- it stands at the middle place
pub returns : goal.returns
returns g c =
    let ps = c.in_ok-ordered.ordered.items in
    let p = c.index.result.now in
    let order = c.in_ok-ordered.ensures.order in
    let lt : c.div_ceil.result < length ps = omega (arith, length_permutation c.args.points.now ps order.same) in
    rw (← c.div_ceil.ensures) (placed-known g.P.Keyed.key_of g.P.HasPoint.point_of c.args.axis c.args.points.now ps c.requires.distinct order
    c.div_ceil.result p lt
    ∙ ap Some (sym c.index.ensures))
