use Rattle.std.proofs.Common.{◌≡◌, ◌++◌, take}
use Rattle.std.specs.List.{flat_map}
use Rattle.std.specs.String.{string_bytes}
use Rattle.cs_show.specs.Text.{text_of}
use Rattle.cs_show.specs.Block.{roll_lines}
use Rattle.cs_show.proofs.lines.put_rolls.Given as goal

abbrev pub invariant-loop-region : goal.invariant-loop-region
invariant-loop-region l =
    string_bytes l.out ≡ string_bytes l.initial.out ++ text_of (flat_map roll_lines (take l.region-index l.rolls))
