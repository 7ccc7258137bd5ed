use Rattle.std.proofs.Common.{◌≡◌, ◌++◌, length, take}
use Rattle.std.specs.List.{flat_map}
use Rattle.cs_fields.specs.Numbers.{number_bytes}
use Rattle.cs_item.specs.Beside.{beside_bytes}
use Rattle.cs_item.specs.SummaryField.{summary_bytes}
use Rattle.cs_item.proofs.codec.regions.append_regions.Given as goal

abbrev pub invariant-loop-region : goal.invariant-loop-region
invariant-loop-region l =
    l.out.items ≡ l.fn.out.items ++ (number_bytes 1 (length l.v) ++ flat_map (beside_bytes summary_bytes) (take l.region-index l.region-items))
