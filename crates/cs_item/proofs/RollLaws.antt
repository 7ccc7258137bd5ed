-- The laws of a roll.
use Rattle.std.proofs.Common.{ℕ, ◌+◌, ◌*◌, ◌^◌, ◌<◌, ◌≤◌, List, length, Result, arith, refl}
use Rattle.std.specs.List.{AllByRecursion, sum}
use Rattle.cs_base.specs.Address.{IsAddress}
use Rattle.cs_base.specs.Axes.{IsPoint}
use Rattle.cs_base.specs.Limits.{last_id, most_members}
use Rattle.cs_base.specs.Ranges.{IsMember}
use Rattle.cs_base.specs.declared.member.Member.{Member}
use Rattle.cs_fields.specs.declared.fault.PacketFault.{PacketFault}
use Rattle.cs_fields.specs.Reading.{Gives, IsTaken}
use Rattle.cs_fields.specs.Counted.{counted_at, counted, counted_sizes, above}
use Rattle.cs_fields.specs.Fields.{member_bytes, member_from, member_len, member_sizes}
use Rattle.cs_fields.proofs.Codec.{IsBytes, IsCodec, IsCodec-same, taken}
use Rattle.cs_fields.proofs.Counted.{IsAtLeast, listed_codec, counted_size}
use Rattle.cs_fields.proofs.Fields.{member_codec}
use Rattle.cs_roll.specs.Roll.{member_id}
use Rattle.cs_item.specs.RollField.{AreMembers, roll_at, roll_bytes, roll_len, roll_sizes}

-- what is asked of a member beside the least id
pub record FitsBeside (m : Member) : Type 0 where
  pub id : m.id ≤ last_id
  pub addr : IsAddress m.addr
  pub at : IsPoint m.at

member_at_least : (least : ℕ) → IsCodec (member_from least) member_bytes member_sizes (IsAtLeast member_id FitsBeside least)
member_at_least least =
    IsCodec-same (member_codec least)
    (λ m is. (is.id.0, record { id = is.id.1; addr = is.addr; at = is.at }))
    (λ m is. record { id = (is.0, is.1.id); addr = is.1.addr; at = is.1.at })
    (λ m _. (refl, refl))

-- a count of so many bytes and members, ascending by id
pub members_codec : (width least most : ℕ) → 0 < width → most < 256 ^ width
    → IsCodec (counted_at width least most member_from (above member_id) 1) (counted width member_bytes) (counted_sizes width member_sizes)
    (AreMembers least most)
members_codec width least most some fits =
    listed_codec member_id FitsBeside 1 IsMember
    (λ m low fits. record { id = (low, fits.id); addr = fits.addr; at = fits.at })
    (λ m is. (is.id.0, record { id = is.id.1; addr = is.addr; at = is.at }))
    member_at_least width least most some fits

pub members_size : (width most : ℕ) (members : List Member) → AllByRecursion IsMember members → length members ≤ most
    → sum (counted_sizes width member_sizes members) ≤ width + member_len * most
members_size width most members all few = counted_size member_sizes IsMember width member_len most (λ m is. omega arith) members all few

pub roll_codec : (most : ℕ) → most ≤ most_members → IsCodec (roll_at most) roll_bytes roll_sizes (AreMembers 0 most)
unfolding roll_at roll_bytes
roll_codec most few = members_codec 2 0 most (omega arith) (omega arith)

pub roll_taken : (most : ℕ) (bytes : List ℕ) (at : ℕ) (r : Result (List Member × ℕ) PacketFault) → most ≤ most_members → IsBytes bytes → at ≤ length bytes
    → Gives r (roll_at most bytes at) → IsTaken roll_bytes (AreMembers 0 most) (roll_len most) bytes at r
roll_taken most bytes at r few are_bytes within given =
    taken (roll_len most) bytes at r (roll_codec most few) (λ members is. members_size 2 most members is.allowed is.few) are_bytes within given
