use Rattle.std.proofs.Common.{◌∷◌, ◌++◌, [], sym, ap, ◌∙◌}
use Rattle.cs_tree.proofs.inter_tree.region_points.Goals as goal

-- the next one comes after those before it
pub loop-i-preserved : goal.loop-i-preserved
loop-i-preserved g c =
    c.in_ok-push.ensures.items ∙ (ap (λ rs. rs ++ c.region_point.result ∷ []) c.loop-i.invariant ∙ sym c.region_point.ensures)
