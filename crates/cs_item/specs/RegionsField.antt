-- The field of the summaries of regions.
use Rattle.std.specs.Prelude.{ℕ, ◌+◌, ◌*◌, List}
use Rattle.cs_base.specs.Limits.{most_regions}
use Rattle.cs_fields.specs.Counted.{above, counted, counted_at, counted_sizes, IsListed}
use Rattle.cs_fields.specs.Reading.{Reader}
use Rattle.cs_item.specs.Beside.{beside_bytes, beside_from, beside_sizes, IsBeside}
use Rattle.cs_item.specs.SummaryField.{IsShortSummary, summary_at, summary_bytes, summary_len, summary_sizes}
use Rattle.cs_roll.specs.Sight.{Summaries}

-- at least so many regions, ascending, with their summaries
abbrev pub IsRegions : ℕ → Summaries → Type 0
IsRegions least pairs = IsListed least most_regions (IsBeside IsShortSummary 0) (λ pair. pair.0) pairs

unfoldable pub regions_at : ℕ → Reader Summaries
regions_at least = counted_at 1 least most_regions (beside_from summary_at) (above (λ pair. pair.0)) 0

unfoldable pub regions_bytes : Summaries → List ℕ
regions_bytes pairs = counted 1 (beside_bytes summary_bytes) pairs

-- the sizes of their fields
abbrev pub regions_sizes : Summaries → List ℕ
regions_sizes pairs = counted_sizes 1 (beside_sizes summary_sizes) pairs

-- the greatest number of their bytes
abbrev pub regions_len : ℕ
regions_len = 1 + (4 + summary_len) * most_regions
