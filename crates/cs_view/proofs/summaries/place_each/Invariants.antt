use Rattle.std.proofs.Common.{◌≡◌, take}
use Rattle.cs_roll.specs.Sight.{IsByRegion}
use Rattle.cs_view.specs.Step.{placed_each}
use Rattle.cs_view.proofs.summaries.place_each.Given as goal

-- those so far are put in
abbrev pub invariant-loop-region : goal.invariant-loop-region
invariant-loop-region l = record {
  placed : l.pairs.items ≡ placed_each (take l.region-index l.summaries) l.initial.pairs.items;
  ascending : IsByRegion l.pairs.items;
}
