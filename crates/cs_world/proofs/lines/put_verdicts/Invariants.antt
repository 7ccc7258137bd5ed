use Rattle.std.proofs.Common.{◌≡◌, ◌++◌, map, take}
use Rattle.std.specs.String.{string_bytes}
use Rattle.cs_machine.specs.Lines.{verdict_line}
use Rattle.cs_show.specs.Text.{text_of}
use Rattle.cs_world.proofs.lines.put_verdicts.Given as goal

abbrev pub invariant-loop-change : goal.invariant-loop-change
invariant-loop-change l =
    string_bytes l.out ≡ string_bytes l.initial.out ++ text_of (map verdict_line (take l.change-index l.verdicts))
