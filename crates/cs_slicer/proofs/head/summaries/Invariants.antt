use Rattle.std.proofs.Common.{◌≡◌, false, map, not, take}
use Rattle.std.specs.List.{filter}
use Rattle.std.specs.Option.{option_map_or}
use Rattle.cs_group.specs.Rows.{regions}
use Rattle.cs_roll.specs.Same.{is_same_summary}
use Rattle.cs_roll.specs.Sight.{at_region}
use Rattle.cs_slicer.specs.Turn.{summaries_of}
use Rattle.cs_slicer.proofs.Beside.{beside}
use Rattle.cs_slicer.proofs.Summaries.{summary_in}
use Rattle.cs_slicer.proofs.head.summaries.Given as goal

-- the new summaries of the regions so far
abbrev pub invariant-loop-i : goal.invariant-loop-i
invariant-loop-i l =
    l.summaries
    ≡ map (beside (summary_in l.after.rows))
    (filter (λ n. not (option_map_or (is_same_summary (summary_in l.after.rows n)) (at_region n (summaries_of l.old)) false))
    (take l.i (regions l.after.rows)))
