-- The projection of a group on some regions, which is what a node knows of it, and its image: which regions the node
-- knows after a turn.
use Rattle.std.specs.Prelude.{ℕ, ◌==◌, ◌&&◌, ◌||◌, Bool, false, List, map, Option, Some, is_some}
use Rattle.std.specs.Prelude.{if◌then◌else◌}
use Rattle.std.specs.List.{filter, filter_map}
use Rattle.std.specs.Option.{option_map_or}
use Rattle.cs_base.specs.declared.change.Mode.{Mode}
use Rattle.cs_base.specs.declared.change.Mode.TheVariants.{Partial, Full}
use Rattle.cs_base.specs.declared.split.Cut.{Cut}
use Rattle.cs_group.specs.Group.{GroupState, is_among}
use Rattle.cs_group.specs.Rows.{members_in, regions}
use Rattle.cs_group.specs.declared.next.Turn.{Turn}
use Rattle.cs_group.specs.declared.row.Row.{Row}
use Rattle.cs_item.specs.declared.picture.Picture.{Picture}
use Rattle.cs_roll.specs.Roll.{member_of}
use Rattle.cs_roll.specs.Sight.{Rolls}
use Rattle.cs_slicer.specs.Turn.{middle_rows, summaries_of, taken_in_by}

-- the rolls of the known regions
abbrev pub rolls_of : List ℕ → List Row → Rolls
rolls_of known rows =
    map (λ region. (region, members_in region rows)) (filter (λ region. is_among known region) (regions rows))

-- the summaries of all regions, and the rolls of the known ones
abbrev pub projection : ℕ → List ℕ → GroupState → Picture
projection epoch known g = record { epoch = epoch; summaries = summaries_of g.rows; rolls = rolls_of known g.rows }

-- where a region goes before the cut: nowhere else, where it is there; into another, where it was merged
abbrev pub heir_of : GroupState → Turn → ℕ → Option ℕ
heir_of before turn region =
    if is_among (regions (middle_rows before turn)) region then Some region else taken_in_by turn.merged region

-- where the known regions go
abbrev pub heirs : GroupState → Turn → List ℕ → List ℕ
heirs before turn known = filter_map (heir_of before turn) known

-- whether the region is the upper one of a region among these that was cut
abbrev pub is_cut_from : Option (ℕ × Cut) → List ℕ → ℕ → Bool
is_cut_from cut among region =
    option_map_or (λ (c : ℕ × Cut). (c.1.upper == region) && is_among among c.0) cut false

-- the regions in which members of the known ones may be now
abbrev pub reached : GroupState → Turn → List ℕ → List ℕ
reached before turn known =
    let there = heirs before turn known in
    filter (λ region. is_among there region || is_cut_from turn.cut there region) (regions turn.group.rows)

-- a Partial node knows the one of them that has it, or none, and a Full node all
abbrev pub known_by : ℕ → Mode → List Row → List ℕ → List ℕ
known_by me Partial rows there = filter (λ region. is_some (member_of me (members_in region rows))) there
known_by me Full rows there = there

-- the regions that a node knows after a turn
abbrev pub image : GroupState → Turn → List ℕ → ℕ → Mode → List ℕ
image before turn known me mode = known_by me mode turn.group.rows (reached before turn known)
