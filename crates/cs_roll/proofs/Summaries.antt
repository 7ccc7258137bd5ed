-- The summary of a roll is one: what its invariant asks follows from the members' points alone.
use Rattle.std.proofs.Common.{◌≡◌, ◌<◌, ◌≤◌, ℤ, List, length, subst, sym, ap, ◌∙◌}
use Rattle.std.specs.List.{AllByRecursion}
use Rattle.std.proofs.lemmas.List.{length-take}
use Rattle.cs_base.specs.declared.member.Member.{Member}
use Rattle.cs_base.specs.Axes.{Axes, IsNear}
use Rattle.cs_base.specs.Limits.{farthest, most_globals, most_summed}
use Rattle.cs_base.specs.Ranges.{IsMember}
use Rattle.cs_base.proofs.Ascending.{IsOrderedBy-take}
use Rattle.cs_base.proofs.Bounds.{IsNear-lowest, IsNear-highest}
use Rattle.cs_roll.specs.Roll.{IsRoll, member_id}
use Rattle.cs_roll.specs.Summary.{RegionSummary, IsSummary, summary_of}
use Rattle.cs_roll.proofs.Numbers.{IsBounded-read}

-- the number of each member's point on one axis is near 0
abbrev IsNearOn : (Axes → ℤ) → List Member → Type 0
IsNearOn axis members = AllByRecursion (λ (m : Member). IsNear farthest (axis m.at)) members

-- the summary of a roll of some members, few enough, whose points are near 0
IsSummary-of_roll : (members : List Member) → 0 < length members → length members ≤ most_summed → IsRoll members
    → IsNearOn (λ p. p.x) members → IsNearOn (λ p. p.y) members → IsNearOn (λ p. p.z) members → IsSummary (summary_of members)
IsSummary-of_roll members some few up x y z = record {
  some = some;
  few = few;
  low = record {
    x = IsNear-lowest (λ m. m.at.x) farthest members some x;
    y = IsNear-lowest (λ m. m.at.y) farthest members some y;
    z = IsNear-lowest (λ m. m.at.z) farthest members some z;
  };
  high = record {
    x = IsNear-highest (λ m. m.at.x) farthest members some x;
    y = IsNear-highest (λ m. m.at.y) farthest members some y;
    z = IsNear-highest (λ m. m.at.z) farthest members some z;
  };
  x = IsBounded-read (λ m. m.at.x) members some;
  y = IsBounded-read (λ m. m.at.y) members some;
  z = IsBounded-read (λ m. m.at.z) members some;
  globals = length-take most_globals members;
  roll = IsOrderedBy-take member_id IsMember most_globals members up;
}

-- a value that is the summary of such a roll
pub IsSummary-made : (members : List Member) (s : RegionSummary) → s ≡ summary_of members → 0 < length members → length members ≤ most_summed
    → IsRoll members → IsNearOn (λ p. p.x) members → IsNearOn (λ p. p.y) members → IsNearOn (λ p. p.z) members → IsSummary s
IsSummary-made members s same some few up x y z = subst IsSummary (sym same) (IsSummary-of_roll members some few up x y z)

-- a summary of some members is that of the roll that they are
pub summary_same : (members roll : List Member) (s : RegionSummary) → s ≡ summary_of members → members ≡ roll → s ≡ summary_of roll
summary_same members roll s is same = is ∙ ap summary_of same
