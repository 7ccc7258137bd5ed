-- What the values of the service may be: the ranges of their numbers.
use Rattle.std.specs.Prelude.{ℕ, ◌≤◌}
use Rattle.cs_base.specs.Address.{IsAddress}
use Rattle.cs_base.specs.Axes.{IsNear, IsPoint}
use Rattle.cs_base.specs.Limits.{farthest, last_id, last_number}
use Rattle.cs_base.specs.declared.change.Change.{Change}
use Rattle.cs_base.specs.declared.change.Change.TheVariants.{Join, Move, Leave}
use Rattle.cs_base.specs.declared.member.Member.{Member}
use Rattle.cs_base.specs.declared.split.Cut.{Cut}

-- from the least to the most
abbrev pub IsFromTo : ℕ → ℕ → ℕ → Type 0
IsFromTo least most n = (least ≤ n) × (n ≤ most)

-- the id of a node isn't 0
abbrev pub IsId : ℕ → Type 0
IsId n = IsFromTo 1 last_id n

-- the id of a region, and the number of an epoch, isn't the last number of 32 bits
abbrev pub IsRegion : ℕ → Type 0
IsRegion n = IsFromTo 0 last_number n

-- the number of a move isn't 0
abbrev pub IsSeq : ℕ → Type 0
IsSeq n = IsFromTo 1 last_id n

-- a member whose id is at least so much
pub record IsMemberFrom (least : ℕ) (m : Member) : Type 0 where
  pub id : IsFromTo least last_id m.id
  pub addr : IsAddress m.addr
  pub at : IsPoint m.at

abbrev pub IsMember : Member → Type 0
IsMember m = IsMemberFrom 1 m

-- a change has the ranges of its kind, where the number of a move may be 0
abbrev pub IsChangeButSeq : Change → Type 0
IsChangeButSeq (Join member) = IsMember member
IsChangeButSeq (Move id seq at) = IsId id × IsPoint at
IsChangeButSeq (Leave id) = IsId id

-- a change has the ranges of its kind
abbrev pub IsChange : Change → Type 0
IsChange (Join member) = IsMember member
IsChange (Move id seq at) = IsId id × IsSeq seq × IsPoint at
IsChange (Leave id) = IsId id

pub record IsCut (cut : Cut) : Type 0 where
  pub at : IsNear farthest cut.split.at
  pub id : IsId cut.split.id
  pub upper : IsRegion cut.upper
