-- The field of a roll.
use Rattle.std.specs.Prelude.{ℕ, ◌+◌, ◌*◌, List}
use Rattle.cs_base.specs.Ranges.{IsMember}
use Rattle.cs_base.specs.declared.member.Member.{Member}
use Rattle.cs_fields.specs.Counted.{above, counted, counted_at, counted_sizes, IsListed}
use Rattle.cs_fields.specs.Fields.{member_bytes, member_from, member_len, member_sizes}
use Rattle.cs_fields.specs.Reading.{Reader}
use Rattle.cs_roll.specs.Roll.{member_id}

-- from the least to the most members, ascending by id
abbrev pub AreMembers : ℕ → ℕ → List Member → Type 0
AreMembers least most members = IsListed least most IsMember member_id members

-- a count of two bytes, and so many members
unfoldable pub roll_at : ℕ → Reader (List Member)
roll_at most = counted_at 2 0 most member_from (above member_id) 1

unfoldable pub roll_bytes : List Member → List ℕ
roll_bytes members = counted 2 member_bytes members

-- the sizes of the fields of a roll
abbrev pub roll_sizes : List Member → List ℕ
roll_sizes members = counted_sizes 2 member_sizes members

-- the greatest number of bytes of a roll of so many members
abbrev pub roll_len : ℕ → ℕ
roll_len most = 2 + member_len * most
