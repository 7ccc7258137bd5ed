use Rattle.std.proofs.Common.{ℕ, List}
use Rattle.std.proofs.lemmas.List.Sums.{fold_more}
use Rattle.cs_base.specs.Ascending.{placed_by}
use Rattle.cs_roll.specs.Summary.{RegionSummary}
use Rattle.cs_view.proofs.summaries.place_each.Goals as goal

-- one more is put in
pub loop-region-preserved : goal.loop-region-preserved
loop-region-preserved c =
    let put : List (ℕ × RegionSummary) → ℕ × RegionSummary → List (ℕ × RegionSummary) = λ before pair. placed_by (λ (p : ℕ × RegionSummary). p.0) pair before in
    let placed = rw c.in_ok-copy.ensures at c.in_ok-place.ensures.placed in
    let more = fold_more put c.args.pairs.now.items c.args.summaries.now c.loop-region.region-index c.loop-region-item.result c.loop-region-test.true in
    record {
      placed = rw (more, ← c.loop-region.invariant.placed, ← c.loop-region-item.is) placed;
      ascending = c.in_ok-place.ensures.ascending;
    }
