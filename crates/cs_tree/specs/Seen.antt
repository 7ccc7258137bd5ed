-- Targets that are seen: each is a global of a listed region, or a member of a known roll.
use Rattle.std.specs.Prelude.{◌≡◌, ◌⊎◌, ℕ, List, Some, Contains}
use Rattle.cs_base.specs.declared.member.Member.{Member}
use Rattle.cs_roll.specs.Sight.{Rolls, Summaries, at_region}
use Rattle.cs_roll.specs.Summary.{RegionSummary}
use Rattle.cs_tree.specs.Route.{Target, target_of}

-- a member that is a global of a listed region
pub record IsGlobal (summaries : Summaries) (member : Member) : Type 0 where
  pub region : ℕ
  pub summary : RegionSummary
  pub listed : at_region region summaries ≡ Some summary
  pub global : Contains summary.globals member

-- a member that stands in a known roll
pub record IsInRoll (rolls : Rolls) (member : Member) : Type 0 where
  pub region : ℕ
  pub roll : List Member
  pub known : at_region region rolls ≡ Some roll
  pub stands : Contains roll member

-- a target that is such a member, with its address there
pub record IsSeen (summaries : Summaries) (rolls : Rolls) (target : Target) : Type 0 where
  pub member : Member
  pub is : target ≡ target_of member
  pub seen : IsGlobal summaries member ⊎ IsInRoll rolls member
