use Rattle.std.proofs.Common.{◌≡◌, ℕ, not, None, List, take}
use Rattle.std.specs.List.{find}
use Rattle.cs_base.specs.declared.member.Member.{Member}
use Rattle.cs_view.specs.Taking.{is_listed}
use Rattle.cs_view.proofs.taking.check_rolls.Given as goal

-- the rolls so far are listed
abbrev pub invariant-loop-pair : goal.invariant-loop-pair
invariant-loop-pair l = find (λ (pair : ℕ × List Member). not (is_listed l.summaries pair)) (take l.pair-index l.rolls) ≡ None
