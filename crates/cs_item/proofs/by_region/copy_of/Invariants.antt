use Rattle.std.proofs.Common.{◌≡◌, take}
use Rattle.cs_item.proofs.by_region.copy_of.Given as goal

abbrev pub invariant-loop-region : goal.invariant-loop-region
invariant-loop-region g l = l.copy.items ≡ take l.region-index l.pairs
