use Rattle.std.proofs.Common.{◌≡◌, ◌++◌, map, decimal, take}
use Rattle.std.specs.List.{join_with_byte}
use Rattle.std.specs.String.{string_bytes}
use Rattle.cs_world.proofs.lines.put_regions.Given as goal

abbrev pub invariant-loop-place : goal.invariant-loop-place
invariant-loop-place l =
    string_bytes l.out
    ≡ string_bytes l.initial.out ++ join_with_byte 44 (map decimal (map (λ pair. pair.0) (take l.place l.pair-items)))
