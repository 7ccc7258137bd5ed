use Rattle.std.proofs.Common.{◌≡◌, ℕ, [], take}
use Rattle.std.specs.List.{filter_map}
use Rattle.cs_roll.specs.Summary.{RegionSummary}
use Rattle.cs_view.specs.Place.{member_at}
use Rattle.cs_view.proofs.place.place_in_globals.Given as goal

-- none so far has the id
abbrev pub invariant-loop-region : goal.invariant-loop-region
invariant-loop-region l = filter_map (λ (pair : ℕ × RegionSummary). member_at l.id (pair.0, pair.1.globals)) (take l.region-index l.summaries) ≡ []
