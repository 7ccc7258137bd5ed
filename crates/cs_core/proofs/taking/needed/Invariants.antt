use Rattle.std.proofs.Common.{◌≡◌, take}
use Rattle.std.specs.List.{filter}
use Rattle.cs_view.specs.Step.{is_known}
use Rattle.cs_core.proofs.taking.needed.Given as goal

-- the known ones of those so far
abbrev pub invariant-loop-region : goal.invariant-loop-region
invariant-loop-region l = l.regions ≡ filter (is_known l.view.rolls) (take l.region-index l.region-items)
