use Rattle.std.proofs.Common.{◌≡◌, ◌≤◌, take}
use Rattle.cs_item.specs.Picture.{members_in}
use Rattle.cs_view.proofs.taking.count_members.Given as goal

-- the members of the rolls so far
abbrev pub invariant-loop-roll : goal.invariant-loop-roll
invariant-loop-roll l = record { counted : l.count ≡ members_in (take l.roll-index l.rolls); few : l.count ≤ l.most }
