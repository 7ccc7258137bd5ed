-- The summaries of the regions of rows: they ascend, and what stands beside a region.
use Rattle.std.proofs.Common.{◌≡◌, ℕ, Bool, true, false, if◌then◌else◌, List, Some, None, refl, ap, ◌∙◌}
use Rattle.std.specs.List.{AllByRecursion}
use Rattle.std.specs.Option.{option_map}
use Rattle.cs_roll.specs.Sight.{IsByRegion, at_region}
use Rattle.cs_roll.specs.Summary.{RegionSummary, summary_of}
use Rattle.cs_group.specs.Group.{is_among}
use Rattle.cs_group.specs.Rows.{members_in, regions}
use Rattle.cs_group.specs.declared.row.Row.{Row}
use Rattle.cs_group.proofs.Cutting.{region-among}
use Rattle.cs_group.proofs.Regions.{ByRecursion-regions, IsAscending-regions}
use Rattle.cs_slicer.specs.Turn.{summaries_of}
use Rattle.cs_slicer.proofs.Beside.{IsAscendingBy-beside, at_key-beside, beside}

-- the summary of a region
abbrev pub summary_in : List Row → ℕ → RegionSummary
summary_in rows region = summary_of (members_in region rows)

-- each region of the rows is one
pub regions-listed : (rows : List Row) → AllByRecursion (λ n. is_among (regions rows) n ≡ true) (regions rows)
regions-listed rows = ByRecursion-regions (λ n. is_among (regions rows) n ≡ true) rows (region-among rows)

-- the summaries ascend by region
pub IsByRegion-summaries_of : (rows : List Row) → IsByRegion (summaries_of rows)
IsByRegion-summaries_of rows = IsAscendingBy-beside (summary_in rows) (regions rows) (IsAscending-regions rows)

-- beside a region stands its summary
pub at_region-summaries_of : (region : ℕ) (rows : List Row)
    → at_region region (summaries_of rows) ≡ (if is_among (regions rows) region then Some (summary_in rows region) else None)
at_region-summaries_of region rows =
    ap (option_map (λ (p : ℕ × RegionSummary). p.1)) (at_key-beside (summary_in rows) region (regions rows)) ∙ mapped (is_among (regions rows) region)
  where
    mapped : (b : Bool)
        → option_map (λ (p : ℕ × RegionSummary). p.1) (if b then Some (beside (summary_in rows) region) else None)
        ≡ (if b then Some (summary_in rows region) else None)
    mapped true = refl
    mapped false = refl
