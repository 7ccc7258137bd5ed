-- What can be seen of a group: the summary of each region, and the rolls of the known ones.
use Rattle.std.specs.Prelude.{◌≡◌, ℕ, ◌≤◌, List, length, Option, Some, ◌==◌}
use Rattle.std.specs.List.{find, AllByRecursion}
use Rattle.std.specs.Option.{option_map}
use Rattle.cs_base.specs.declared.member.Member.{Member}
use Rattle.cs_base.specs.Ascending.{IsAscendingBy}
use Rattle.cs_base.specs.Limits.{most_regions}
use Rattle.cs_roll.specs.Roll.{IsRoll}
use Rattle.cs_roll.specs.Summary.{RegionSummary, IsSummary, summary_of}

-- pairs of a region and its summary, and of a region and its roll
abbrev pub Summaries : Type 0
Summaries = List (ℕ × RegionSummary)

abbrev pub Rolls : Type 0
Rolls = List (ℕ × List Member)

-- what stands beside the region
abbrev pub at_region : {T : Type 0} → ℕ → List (ℕ × T) → Option T
at_region {T} region pairs = option_map (λ (pair : ℕ × T). pair.1) (find (λ (pair : ℕ × T). pair.0 == region) pairs)

-- the pairs ascend by region
abbrev pub IsByRegion : {T : Type 0} → List (ℕ × T) → Type 0
IsByRegion {T} pairs = IsAscendingBy (λ (pair : ℕ × T). pair.0) pairs

-- the regions are few, and each known one is listed with the summary of its roll
pub record IsSight (summaries : Summaries) (rolls : Rolls) : Type 0 where
  pub few : length summaries ≤ most_regions
  pub summaries_ascend : IsByRegion summaries
  pub rolls_ascend : IsByRegion rolls
  pub listed : AllByRecursion (λ pair. at_region pair.0 summaries ≡ Some (summary_of pair.1)) rolls
  pub summaries_allowed : AllByRecursion (λ pair. IsSummary pair.1) summaries
  pub rolls_allowed : AllByRecursion (λ pair. IsRoll pair.1) rolls
