use Rattle.std.proofs.Common.{◌≡◌, ◌++◌, take}
use Rattle.std.specs.List.{flat_map}
use Rattle.cs_fields.specs.Fields.{id_bytes}
use Rattle.cs_fields.proofs.ids.append_each_number.Given as goal

abbrev pub invariant-loop-n : goal.invariant-loop-n
invariant-loop-n l = l.out.items ≡ l.fn.out.items ++ flat_map id_bytes (take l.n-index l.numbers)
