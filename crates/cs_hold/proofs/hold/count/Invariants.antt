use Rattle.std.proofs.Common.{◌≡◌, ◌≤◌, ◌*◌, length, take}
use Rattle.cs_hold.specs.Held.{on_shelves}
use Rattle.cs_hold.proofs.hold.count.Given as goal

abbrev pub invariant-loop-shelf : goal.invariant-loop-shelf
invariant-loop-shelf l =
    record { counted : l.count ≡ length (on_shelves (take l.shelf-index l.shelves)); few : l.count ≤ 4 * l.shelf-index }
