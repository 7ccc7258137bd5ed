use Rattle.std.proofs.Common.{◌≢◌, ℕ, ◌<◌, get_or}
use Rattle.cs_base.specs.declared.member.Member.{Member}
use Rattle.cs_near.proofs.tests.are_distinct.Given as goal

-- so far no id occurs twice
abbrev pub invariant-loop-i : goal.invariant-loop-i
invariant-loop-i l = (j k : ℕ) (d : Member) → j < k → k < l.i → (get_or l.members j d).id ≢ (get_or l.members k d).id
