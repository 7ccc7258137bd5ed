-- The head of a turn: what the new epoch tells every old region alike.
use Rattle.std.specs.Prelude.{ℕ, not, Bool, true, false, List}
use Rattle.std.specs.List.{filter}
use Rattle.std.specs.Option.{option_map_or}
use Rattle.cs_group.specs.Group.{GroupState, is_among}
use Rattle.cs_group.specs.Rows.{regions}
use Rattle.cs_group.specs.declared.next.Turn.{Turn}
use Rattle.cs_group.specs.declared.row.Row.{Row}
use Rattle.cs_item.specs.declared.head.Head.{Head}
use Rattle.cs_item.specs.declared.part.PartKind.{PartKind}
use Rattle.cs_item.specs.declared.part.PartKind.TheVariants.{Same, Diff, Whole}
use Rattle.cs_roll.specs.Same.{is_same_summary}
use Rattle.cs_roll.specs.Sight.{Summaries, at_region}
use Rattle.cs_roll.specs.Summary.{RegionSummary}
use Rattle.cs_slicer.specs.Part.{part_in}
use Rattle.cs_slicer.specs.Turn.{summaries_of}

-- the ids that left: they are retired now, and weren't before
abbrev pub left_in : GroupState → GroupState → List ℕ
left_in before after = filter (λ id. not (is_among before.retired id)) after.retired

-- the old regions that aren't in the new group
abbrev pub dropped_in : List Row → List Row → List ℕ
dropped_in before after = filter (λ region. not (is_among (regions after) region)) (regions before)

-- the summaries of new regions that are new or differ from before
abbrev pub summaries_in : List Row → List Row → Summaries
summaries_in before after =
    let is_old : ℕ × RegionSummary → Bool = λ pair.
    option_map_or (is_same_summary pair.1) (at_region pair.0 (summaries_of before)) false in
    filter (λ pair. not (is_old pair)) (summaries_of after)

-- whether the members of a region become anything else
abbrev pub is_same_kind : PartKind → Bool
is_same_kind Same = true
is_same_kind (Diff gone here) = false
is_same_kind (Whole into roll) = false

-- the old regions whose part isn't the same
abbrev pub touched_in : GroupState → Turn → List ℕ
touched_in before turn = filter (λ region. not (is_same_kind (part_in before turn region).kind)) (regions before.rows)

abbrev pub head_in : GroupState → Turn → ℕ → Head
head_in before turn epoch = record {
  epoch = epoch;
  left = left_in before turn.group;
  dropped = dropped_in before.rows turn.group.rows;
  summaries = summaries_in before.rows turn.group.rows;
  touched = touched_in before turn;
}
