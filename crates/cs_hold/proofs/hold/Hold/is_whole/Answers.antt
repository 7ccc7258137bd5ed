use Rattle.std.proofs.Common.{length, ◌==◌, sym, ap, ◌∙◌}
use Rattle.cs_hold.proofs.Whole.{of_region-view}
use Rattle.cs_hold.proofs.hold.Hold.is_whole.Goals as goal

-- the pieces of the region are those on its shelf
pub returns : goal.returns
returns c =
    let same = of_region-view c.self.inside.shelves c.args.self.now c.self.view_is c.pieces.ensures.ascending c.args.region in
    ap (λ ps. length ps == 4) (c.pieces.ensures.value ∙ sym same)
