use Rattle.std.proofs.Common.{◌≡◌}
use Rattle.std.specs.List.{filter, range_with_len}
use Rattle.cs_core.specs.Taking.{is_new}
use Rattle.cs_core.proofs.taking.new_colours.Given as goal

-- the new ones of the colours so far
abbrev pub invariant-loop-colour : goal.invariant-loop-colour
invariant-loop-colour l = l.new.items ≡ filter (is_new l.region l.before l.after) (range_with_len 0 l.colour)
