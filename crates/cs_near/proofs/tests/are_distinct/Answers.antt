use Rattle.std.proofs.Common.{◌≢◌, ℕ, suc, ◌<◌, List, [], ◌∷◌, length, get_or, arith}
use Rattle.cs_base.proofs.Ascending.{All-from_places}
use Rattle.cs_base.specs.Ascending.{IsDistinctBy}
use Rattle.cs_base.specs.declared.member.Member.{Member}
use Rattle.cs_near.proofs.tests.are_distinct.Goals as goal

-- ids that differ at each two places
distinct-places : (ms : List Member) → ((j k : ℕ) (d : Member) → j < k → k < length ms → (get_or ms j d).id ≢ (get_or ms k d).id)
    → IsDistinctBy (λ (m : Member). m.id) ms
distinct-places [] differ = tt
distinct-places (m ∷ ms) differ = (
  All-from_places (λ (n : Member). m.id ≢ n.id) ms (λ k d lt. differ 0 (suc k) d (omega arith) (omega arith)),
  distinct-places ms (λ j k d lt in_range. differ (suc j) (suc k) d (omega arith) (omega arith)),
)

pub returns : goal.returns
returns c = λ _. distinct-places c.args.members.now (λ j k d lt in_range. c.loop-i.invariant j k d lt (omega arith))
