use Rattle.std.proofs.Common.{take}
use Rattle.std.specs.List.{AllByRecursion}
use Rattle.cs_base.specs.Ranges.{IsRegion}
use Rattle.cs_item.proofs.by_region.ByRegion.from_vec.Given as goal

-- the pairs so far are allowed
abbrev pub invariant-loop-pair : goal.invariant-loop-pair
invariant-loop-pair g l =
    AllByRecursion (λ pair. IsRegion pair.0 × g.T.Beside.IsAllowed pair.1) (take l.pair-index l.pair-items)
