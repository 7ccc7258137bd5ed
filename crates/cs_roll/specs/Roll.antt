-- A roll: the members of a region, ascending by id.
use Rattle.std.specs.Prelude.{ℕ, List, Option}
use Rattle.cs_base.specs.declared.member.Member.{Member}
use Rattle.cs_base.specs.Ascending.{IsAscendingBy, IsOrderedBy, at_key, placed_by, without_key}
use Rattle.cs_base.specs.Ranges.{IsMember}

abbrev pub member_id : Member → ℕ
member_id member = member.id

-- the members ascend by id
abbrev pub IsById : List Member → Type 0
IsById members = IsAscendingBy member_id members

-- they ascend by id, and each is allowed
abbrev pub IsRoll : List Member → Type 0
IsRoll members = IsOrderedBy member_id IsMember members

-- the member with this id
abbrev pub member_of : ℕ → List Member → Option Member
member_of id members = at_key member_id id members

-- the roll with the member in its place, instead of one with its id
abbrev pub with_member : Member → List Member → List Member
with_member member members = placed_by member_id member members

-- the roll without the member with this id
abbrev pub without_member : ℕ → List Member → List Member
without_member id members = without_key member_id id members
