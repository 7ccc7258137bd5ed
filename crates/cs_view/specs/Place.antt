-- The place of a member in a view, which by strangers' bytes may have one id in several regions: the least region
-- whose known roll has the id, and where none has it the least region that has it as a global.
use Rattle.std.specs.Prelude.{ℕ, List, Option, slice_get}
use Rattle.std.specs.List.{filter_map}
use Rattle.std.specs.Option.{option_map, option_or}
use Rattle.cs_base.specs.declared.member.Member.{Member}
use Rattle.cs_item.specs.declared.picture.Picture.{Picture}
use Rattle.cs_roll.specs.Roll.{member_of}
use Rattle.cs_roll.specs.Sight.{Rolls, Summaries}
use Rattle.cs_roll.specs.Summary.{RegionSummary}

-- the region with its member of this id
abbrev pub member_at : ℕ → ℕ × List Member → Option (ℕ × Member)
member_at id pair = option_map (λ member. (pair.0, member)) (member_of id pair.1)

-- the first such one among the rolls
abbrev pub place_in_rolls : ℕ → Rolls → Option (ℕ × Member)
place_in_rolls id rolls = slice_get (filter_map (member_at id) rolls) 0

-- the first such one among the globals
abbrev pub place_in_globals : ℕ → Summaries → Option (ℕ × Member)
place_in_globals id summaries =
    slice_get (filter_map (λ (pair : ℕ × RegionSummary). member_at id (pair.0, pair.1.globals)) summaries) 0

abbrev pub place_in : ℕ → Picture → Option (ℕ × Member)
place_in id view = option_or (place_in_rolls id view.rolls) (place_in_globals id view.summaries)
