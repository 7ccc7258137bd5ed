use Rattle.std.proofs.Common.{◌≡◌, take}
use Rattle.std.specs.List.{flat_map}
use Rattle.cs_hold.proofs.Names.{names_on}
use Rattle.cs_hold.proofs.hold.Hold.names.Given as goal

-- the names of the pieces on the shelves so far
abbrev pub invariant-loop-shelf : goal.invariant-loop-shelf
invariant-loop-shelf l = l.names.items ≡ flat_map names_on (take l.shelf-index l.shelf-items)
