-- The field of a picture.
use Rattle.std.specs.Prelude.{ℕ, ◌+◌, ◌*◌, ◌-◌, ◌≤◌, List, ◌∷◌, ◌++◌, length, Ok}
use Rattle.std.specs.List.{AllByRecursion}
use Rattle.cs_base.specs.Limits.{most_members, most_regions}
use Rattle.cs_base.specs.Ranges.{IsRegion}
use Rattle.cs_base.specs.declared.member.Member.{Member}
use Rattle.cs_fields.specs.Counted.{counted, counted_at, counted_sizes}
use Rattle.cs_fields.specs.Fields.{id_bytes, member_len, region_at}
use Rattle.cs_fields.specs.Reading.{Reader, ◌>>=◌}
use Rattle.cs_item.specs.Beside.{beside_bytes, beside_from, beside_sizes, IsBeside}
use Rattle.cs_item.specs.Picture.{members_in}
use Rattle.cs_item.specs.RegionsField.{IsRegions, regions_at, regions_bytes, regions_len, regions_sizes}
use Rattle.cs_item.specs.RollField.{AreMembers, roll_at, roll_bytes, roll_sizes}
use Rattle.cs_item.specs.declared.picture.Picture.{Picture}
use Rattle.cs_roll.specs.Sight.{IsByRegion, Rolls}

-- rolls of at most so many regions, ascending by region, of no more members together than the group may have
pub record AreRolls (rolls : Rolls) : Type 0 where
  pub few : length rolls ≤ most_regions
  pub allowed : AllByRecursion (IsBeside (AreMembers 0 most_members) 0) rolls
  pub ascending : IsByRegion rolls
  pub members : members_in rolls ≤ most_members

-- the least region that may follow, and how many members there is room for
pub record Left : Type 0 where
  pub least : ℕ
  pub room : ℕ

-- before the first region
abbrev pub all_left : Left
all_left = record { least = 0; room = most_members }

-- a region that may follow, and a roll that there is room for
abbrev pub IsRegionRollAfter : Left → ℕ × List Member → Type 0
IsRegionRollAfter left pair = IsBeside (AreMembers 0 left.room) left.least pair

abbrev pub region_roll_after : Left → Reader (ℕ × List Member)
region_roll_after left = beside_from (roll_at left.room) left.least

-- what is left after a region and its roll
abbrev pub left_after : Left → ℕ × List Member → Left
left_after left pair = record { least = pair.0 + 1; room = left.room - length pair.1 }

unfoldable pub rolls_at : Reader Rolls
rolls_at = counted_at 1 0 most_regions region_roll_after left_after all_left

unfoldable pub rolls_bytes : Rolls → List ℕ
rolls_bytes rolls = counted 1 (beside_bytes roll_bytes) rolls

-- the sizes of their fields
abbrev pub rolls_sizes : Rolls → List ℕ
rolls_sizes rolls = counted_sizes 1 (beside_sizes roll_sizes) rolls

-- the greatest number of their bytes
abbrev pub rolls_len : ℕ
rolls_len = 1 + 6 * most_regions + member_len * most_members

-- a picture of at least one region
pub record IsPicture (p : Picture) : Type 0 where
  pub epoch : IsRegion p.epoch
  pub summaries : IsRegions 1 p.summaries
  pub rolls : AreRolls p.rolls

unfoldable pub picture_at : Reader Picture
picture_at bytes at = do
  epoch ← region_at bytes at
  summaries ← regions_at 1 bytes epoch.1
  rolls ← rolls_at bytes summaries.1
  Ok (record { epoch = epoch.0; summaries = summaries.0; rolls = rolls.0 }, rolls.1)

unfoldable pub picture_bytes : Picture → List ℕ
picture_bytes p = id_bytes p.epoch ++ regions_bytes p.summaries ++ rolls_bytes p.rolls

-- the sizes of the fields of a picture
abbrev pub picture_sizes : Picture → List ℕ
picture_sizes p = 4 ∷ regions_sizes p.summaries ++ rolls_sizes p.rolls

-- the greatest number of its bytes
abbrev pub picture_len : ℕ
picture_len = 4 + regions_len + rolls_len
