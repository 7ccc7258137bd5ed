use Rattle.std.proofs.Common.{◌≡◌, ◌≤◌, take}
use Rattle.std.specs.List.{AllByRecursion}
use Rattle.cs_base.specs.Limits.{last_number}
use Rattle.cs_group.specs.Rows.{regions}
use Rattle.cs_group.proofs.rows.regions_of.Given as goal

-- the regions of the rows so far, none of which is the last number
abbrev pub invariant-loop-row : goal.invariant-loop-row
invariant-loop-row l = record {
  value : l.regions ≡ regions (take l.row-index l.rows);
  not_last : AllByRecursion (λ n. n ≤ last_number) l.regions;
}
