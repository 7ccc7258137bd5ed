use Rattle.std.proofs.Common.{◌≡◌, take}
use Rattle.std.specs.List.{fold}
use Rattle.cs_roll.specs.Roll.{with_member}
use Rattle.cs_view.proofs.giving.insert_each.Given as goal

-- those so far are put in
abbrev pub invariant-loop-member : goal.invariant-loop-member
invariant-loop-member l = l.roll ≡ fold (λ before m. with_member m before) l.initial.roll (take l.member-index l.members)
