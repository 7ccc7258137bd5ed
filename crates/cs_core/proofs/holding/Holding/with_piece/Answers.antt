use Rattle.std.proofs.Common.{List, sym, subst}
use Rattle.cs_item.specs.declared.slice.Slice.{Slice}
use Rattle.cs_core.proofs.SlicesRead.{AreRead, read-piece}
use Rattle.cs_core.proofs.holding.Holding.with_piece.Goals as goal

-- the slices are those of the pieces that are held then
pub invariant_of-result : goal.invariant_of-result
invariant_of-result c =
    let s = c.self.inside in
    let all = c.in_ok-slices.ensures in
    subst (λ (all : List Slice). AreRead all c.in_ok-pieces.pieces) (sym all)
    (read-piece c.args.region c.args.colour c.args.bytes.now s.pieces c.in_ok-pieces.pieces s.slices c.in_ok-slice.slice
    c.self.invariant c.in_ok-pieces.ensures.ok c.in_ok-slice.ensures.value c.in_ok-slice.ensures.some c.in_ok-slice.ensures.none)
