-- The laws of a picture.
use Rattle.std.proofs.Common.{◌≡◌, ℕ, ◌+◌, ◌*◌, ◌<◌, ◌≤◌, List, [], ◌∷◌, length, Result, Ok, append_assoc, arith, refl}
use Rattle.std.specs.List.{flat_map, AllByRecursion, sum}
use Rattle.std.proofs.lemmas.List.{append-nil}
use Rattle.std.proofs.lemmas.List.Sums.{sum_by-cons}
use Rattle.cs_base.specs.Limits.{most_members, most_regions}
use Rattle.cs_base.specs.Ranges.{IsMember}
use Rattle.cs_base.specs.declared.member.Member.{Member}
use Rattle.cs_fields.specs.declared.fault.PacketFault.{PacketFault}
use Rattle.cs_fields.specs.Reading.{◌>>=◌, Gives, IsTaken}
use Rattle.cs_fields.specs.Fields.{member_len}
use Rattle.cs_fields.proofs.Codec.{IsBytes, IsCodec, IsCodec-bind, IsCodec-done, IsCodec-same, IsCodec-text, sum-append, sum-cons, taken}
use Rattle.cs_base.proofs.Elements.{All-weaker}
use Rattle.cs_fields.proofs.Counted.{IsAllowedFrom, counted_codec}
use Rattle.cs_fields.proofs.Fields.{region_from_codec}
use Rattle.cs_roll.specs.Sight.{IsByRegion, Rolls}
use Rattle.cs_item.specs.Beside.{beside_bytes, beside_sizes, IsBeside}
use Rattle.cs_item.specs.Picture.{members_in}
use Rattle.cs_item.specs.RollField.{AreMembers, roll_bytes, roll_len, roll_sizes}
use Rattle.cs_item.specs.RegionsField.{regions_at, regions_sizes}
use Rattle.cs_item.specs.PictureField.{all_left, AreRolls, IsPicture, IsRegionRollAfter, Left, left_after, picture_at, picture_bytes, picture_len}
use Rattle.cs_item.specs.PictureField.{picture_sizes, region_roll_after, rolls_at, rolls_bytes, rolls_len, rolls_sizes}
use Rattle.cs_item.specs.declared.picture.Picture.{Picture}
use Rattle.cs_item.proofs.RollLaws.{members_size, roll_codec}
use Rattle.cs_item.proofs.RegionLaws.{beside_codec, beside_size, regions_codec, regions_size}

-- ---- a region and its roll
-- a region that is at least so much
abbrev IsFrom : ℕ → ℕ × List Member → Type 0
IsFrom least pair = least ≤ pair.0

pub region_roll_size : (pair : ℕ × List Member) (most : ℕ) → AllByRecursion IsMember pair.1 → length pair.1 ≤ most
    → sum (beside_sizes roll_sizes pair) ≤ 4 + roll_len most
region_roll_size pair most all few = beside_size roll_sizes pair (roll_len most) (members_size 2 most pair.1 all few)

pub region_roll_taken : (left : Left) (bytes : List ℕ) (at : ℕ) (r : Result ((ℕ × List Member) × ℕ) PacketFault) → left.room ≤ most_members → IsBytes bytes
    → at ≤ length bytes → Gives r (region_roll_after left bytes at)
    → IsTaken (beside_bytes roll_bytes) (IsRegionRollAfter left) (4 + roll_len left.room) bytes at r
region_roll_taken left bytes at r few are_bytes within given =
    taken (4 + roll_len left.room) bytes at r (beside_codec (roll_codec left.room few) left.least)
    (λ pair is. region_roll_size pair left.room is.1.allowed is.1.few) are_bytes within given

-- ---- rolls
members_in-cons : (pair : ℕ × List Member) (rolls : Rolls) → members_in (pair ∷ rolls) ≡ length pair.1 + members_in rolls
members_in-cons pair rolls = sum_by-cons (λ (p : ℕ × List Member). length p.1) pair rolls

-- rolls that each go by those before ascend, and have no more members together than there is room for
rolls_from : (left : Left) (rolls : Rolls) → left.room ≤ most_members → IsAllowedFrom IsRegionRollAfter left_after left rolls
    → AllByRecursion (IsBeside (AreMembers 0 most_members) 0) rolls × IsByRegion rolls × AllByRecursion (IsFrom left.least) rolls
    × (members_in rolls ≤ left.room)
rolls_from left [] few is = (tt, tt, tt, omega arith)
rolls_from left (pair ∷ rolls) few is =
    let members = is.0.1 in
    let rest = rolls_from (left_after left pair) rolls (omega arith) is.1 in
    let roll : AreMembers 0 most_members pair.1 =
    record { enough = omega arith; few = omega (arith, members.few); allowed = members.allowed; ascending = members.ascending } in (
      (((omega arith, is.0.0.1), roll), rest.0),
      (All-weaker (IsFrom (pair.0 + 1)) (λ (p : ℕ × List Member). pair.0 < p.0) (λ p le. omega arith) rolls rest.2, rest.1),
      (is.0.0.0, All-weaker (IsFrom (pair.0 + 1)) (IsFrom left.least) (λ p le. omega (arith, is.0.0.0)) rolls rest.2),
      omega (arith, members.few, rest.3, members_in-cons pair rolls),
    )

-- and the other way round
rolls_to : (left : Left) (rolls : Rolls) → AllByRecursion (IsBeside (AreMembers 0 most_members) 0) rolls → IsByRegion rolls
    → AllByRecursion (IsFrom left.least) rolls → members_in rolls ≤ left.room → IsAllowedFrom IsRegionRollAfter left_after left rolls
rolls_to left [] all up low members = tt
rolls_to left (pair ∷ rolls) all up low members =
    let is = all.0 in
    let sum = members_in-cons pair rolls in
    let roll : AreMembers 0 left.room pair.1 =
    record { enough = omega arith; few = omega (arith, members, sum); allowed = is.1.allowed; ascending = is.1.ascending } in (
      ((low.0, is.0.1), roll),
      rolls_to (left_after left pair) rolls all.1 up.1
          (All-weaker (λ (p : ℕ × List Member). pair.0 < p.0) (IsFrom (pair.0 + 1)) (λ p lt. omega arith) rolls up.0)
          (omega (arith, members, sum)),
    )

pub rolls_codec : IsCodec rolls_at rolls_bytes rolls_sizes AreRolls
unfolding rolls_at rolls_bytes
rolls_codec =
    IsCodec-same
    (counted_codec left_after (λ left. left.room ≤ most_members) (λ left few. beside_codec (roll_codec left.room few) left.least)
    (λ left pair few is. omega arith) 1 0 most_regions all_left (omega arith) (omega arith) (omega arith))
    (λ rolls is. let parts = rolls_from all_left rolls (omega arith) is.1 in
    record { few = is.0.1; allowed = parts.0; ascending = parts.1; members = parts.3 })
    (λ rolls is. (
      (omega arith, is.few),
      rolls_to all_left rolls is.allowed is.ascending
          (All-weaker (IsBeside (AreMembers 0 most_members) 0) (IsFrom 0) (λ pair one. one.0.0) rolls is.allowed) is.members,
    ))
    (λ rolls _. (refl, refl))

-- the rolls together
each_roll_size : (rolls : Rolls) → AllByRecursion (IsBeside (AreMembers 0 most_members) 0) rolls
    → sum (flat_map (beside_sizes roll_sizes) rolls) ≤ 6 * length rolls + member_len * members_in rolls
each_roll_size [] all = omega arith
each_roll_size (pair ∷ rolls) all =
    omega (
      arith,
      sum-append (beside_sizes roll_sizes pair) (flat_map (beside_sizes roll_sizes) rolls),
      region_roll_size pair (length pair.1) all.0.1.allowed (omega arith),
      each_roll_size rolls all.1,
      members_in-cons pair rolls,
    )

rolls_size : (rolls : Rolls) → AreRolls rolls → sum (rolls_sizes rolls) ≤ rolls_len
rolls_size rolls is =
    omega (arith, sum-cons 1 (flat_map (beside_sizes roll_sizes) rolls), each_roll_size rolls is.allowed, is.few, is.members)

-- ---- the whole picture
pub picture_codec : IsCodec picture_at picture_bytes picture_sizes IsPicture
unfolding picture_at picture_bytes
picture_codec =
    IsCodec-text
    (IsCodec-bind
    (λ epoch. λ bytes at. regions_at 1 bytes at >>= λ summaries. rolls_at bytes summaries.1 >>= λ rolls.
    Ok (record { epoch = epoch.0; summaries = summaries.0; rolls = rolls.0 }, rolls.1))
    (λ p. p.epoch) (region_from_codec 0)
    (λ epoch is_epoch. IsCodec-bind
    (λ summaries. λ bytes at. rolls_at bytes at >>= λ rolls. Ok (record { epoch = epoch.0; summaries = summaries.0; rolls = rolls.0 }, rolls.1))
    (λ p. p.summaries) (regions_codec 1)
    (λ summaries are_regions. IsCodec-bind
    (λ rolls. λ bytes at. Ok (record { epoch = epoch.0; summaries = summaries.0; rolls = rolls.0 }, at))
    (λ p. p.rolls) rolls_codec
    (λ rolls are_rolls. IsCodec-done (record { epoch = epoch.0; summaries = summaries.0; rolls = rolls.0 })
    (refl, (refl, (refl, record { epoch = is_epoch; summaries = are_regions; rolls = are_rolls })))
    (λ p is. rw (← is.0, ← is.1.0, ← is.1.1.0) refl))
    (λ p is. is.1.1.rolls))
    (λ p is. is.1.summaries))
    (λ p is. is.epoch))
    (λ p is. (simp (append_assoc, append-nil), simp append-nil))

pub picture_size : (p : Picture) → IsPicture p → sum (picture_sizes p) ≤ picture_len
picture_size p is =
    omega (
      arith,
      sum-append (4 ∷ regions_sizes p.summaries) (rolls_sizes p.rolls),
      sum-cons 4 (regions_sizes p.summaries),
      regions_size 1 p.summaries is.summaries,
      rolls_size p.rolls is.rolls,
    )

pub picture_taken : (bytes : List ℕ) (at : ℕ) (r : Result (Picture × ℕ) PacketFault) → IsBytes bytes → at ≤ length bytes
    → Gives r (picture_at bytes at) → IsTaken picture_bytes IsPicture picture_len bytes at r
picture_taken bytes at r are_bytes within given = taken picture_len bytes at r picture_codec picture_size are_bytes within given
