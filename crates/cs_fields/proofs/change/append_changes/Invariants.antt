use Rattle.std.proofs.Common.{◌≡◌, ◌++◌, length, take}
use Rattle.std.specs.List.{flat_map}
use Rattle.cs_fields.specs.Changes.{change_bytes}
use Rattle.cs_fields.specs.Numbers.{number_bytes}
use Rattle.cs_fields.proofs.change.append_changes.Given as goal

abbrev pub invariant-loop-change : goal.invariant-loop-change
invariant-loop-change l = l.out.items ≡ l.fn.out.items ++ (number_bytes 1 (length l.changes) ++ flat_map change_bytes (take l.change-index l.changes))
