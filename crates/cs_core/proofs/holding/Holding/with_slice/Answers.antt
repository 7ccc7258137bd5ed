use Rattle.std.proofs.Common.{◌≢◌, List, length, sym, ap, subst, ◌∙◌}
use Rattle.cs_base.specs.Ascending.{placed_by}
use Rattle.cs_hold.specs.Held.{Held, of_region}
use Rattle.cs_item.specs.declared.slice.Slice.{Slice}
use Rattle.cs_core.specs.Holding.{slice_region}
use Rattle.cs_core.proofs.SlicesRead.{AreRead, read-slice}
use Rattle.cs_core.proofs.holding.Holding.with_slice.Goals as goal

-- the slices are those of the pieces that are held then
pub invariant_of-result : goal.invariant_of-result
invariant_of-result c =
    let s = c.self.inside in
    let absent = subst (λ (held : List Held). length (of_region c.args.slice.now.part.region held) ≢ 4) (sym c.self.view_is) c.requires.absent in
    let all = c.in_ok-slices.ensures ∙ ap (λ (whole : Slice). placed_by slice_region whole s.slices) c.in_ok-whole.ensures in
    subst (λ (all : List Slice). AreRead all c.in_ok-pieces.pieces) (sym all)
    (subst (λ (held : List Held). AreRead (placed_by slice_region c.args.slice.now s.slices) held) (sym c.in_ok-pieces.ensures)
    (read-slice s.pieces s.slices c.args.slice.now c.self.invariant c.requires.slice absent))
