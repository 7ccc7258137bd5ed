use Rattle.std.proofs.Common.{◌≡◌, take}
use Rattle.cs_item.specs.Picture.{members_in}
use Rattle.census.proofs.summary.members_of.Given as goal

-- those of the rolls so far
abbrev pub invariant-loop-pair : goal.invariant-loop-pair
invariant-loop-pair l = l.members ≡ members_in (take l.pair-index l.pair-items)
