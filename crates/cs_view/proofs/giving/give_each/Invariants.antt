use Rattle.std.proofs.Common.{◌≡◌, [], take}
use Rattle.std.specs.List.{flat_map}
use Rattle.cs_roll.specs.Sight.{IsByRegion}
use Rattle.cs_view.specs.Step.{given, placed_each}
use Rattle.cs_view.proofs.giving.give_each.Given as goal

-- what the regions so far give is put in
abbrev pub invariant-loop-pair : goal.invariant-loop-pair
invariant-loop-pair l = record {
  placed : l.next.items ≡ placed_each (flat_map (given l.rolls l.head l.parts) (take l.pair-index l.pair-items)) [];
  ascending : IsByRegion l.next.items;
}
