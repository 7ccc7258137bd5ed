use Rattle.std.proofs.Common.{◌≡◌, ℕ, not, take}
use Rattle.std.specs.List.{filter}
use Rattle.cs_roll.specs.Summary.{RegionSummary}
use Rattle.cs_view.specs.Step.{is_among}
use Rattle.cs_view.proofs.summaries.undropped.Given as goal

-- those so far that aren't dropped
abbrev pub invariant-loop-region : goal.invariant-loop-region
invariant-loop-region l = l.kept.items ≡ filter (λ (p : ℕ × RegionSummary). not (is_among l.dropped p.0)) (take l.region-index l.summaries)
