use Rattle.std.proofs.Common.{◌≡◌, not, take}
use Rattle.std.specs.List.{filter}
use Rattle.cs_base.specs.declared.member.Member.{Member}
use Rattle.cs_view.specs.Step.{is_among}
use Rattle.cs_view.proofs.giving.staying.Given as goal

-- those so far that don't go out
abbrev pub invariant-loop-member : goal.invariant-loop-member
invariant-loop-member l = l.staying ≡ filter (λ (m : Member). not (is_among l.gone m.id)) (take l.member-index l.members)
