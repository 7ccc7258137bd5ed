-- Judging: the verdict on each change of a list, by the group as the accepted ones before it leave it.
use Rattle.std.specs.Prelude.{ℕ, ◌+◌, nat_le, ◌==◌, ◌||◌, Bool, true, false, List, [], ◌∷◌, length}
use Rattle.std.specs.Prelude.{map, Option, Some, None, if◌then◌else◌}
use Rattle.std.specs.List.{filter}
use Rattle.cs_base.specs.Limits.{most_members, most_together}
use Rattle.cs_base.specs.declared.change.Change.{Change}
use Rattle.cs_base.specs.declared.change.Change.TheVariants.{Join, Move, Leave}
use Rattle.cs_near.specs.declared.keyed.RegionSum.{RegionSum}
use Rattle.cs_group.specs.declared.row.Row.{Row}
use Rattle.cs_group.specs.declared.verdict.Verdict.{Verdict}
use Rattle.cs_group.specs.declared.verdict.Verdict.TheVariants.{Accepted, Retired, Present, Full}
use Rattle.cs_group.specs.declared.verdict.Verdict.TheVariants.{Absent, Leader, Stale}
use Rattle.cs_group.specs.Group.{GroupState, is_among}
use Rattle.cs_group.specs.Place.{region_sums}
use Rattle.cs_group.specs.Rows.{has_member, row_of}
use Rattle.cs_group.specs.Taking.{with_change}

-- there are as many members as there may be, or as many members and retired ids together
abbrev pub is_full : GroupState → Bool
is_full g = nat_le most_members (length g.rows) || nat_le most_together (length g.rows + length g.retired)

-- the verdict on a join is the first that fits
abbrev pub join_verdict : GroupState → ℕ → Verdict
join_verdict g id =
    if is_among g.retired id then Retired
    else (if has_member id g.rows then Present else (if is_full g then Full else Accepted))

-- and so is that on a leave
abbrev pub leave_verdict : GroupState → ℕ → Verdict
leave_verdict g id =
    if has_member id g.rows then (if id == g.leader then Leader else Accepted) else Absent

-- and that on a move, whose seq has to be above that of the member's row
abbrev pub move_verdict : GroupState → ℕ → ℕ → Option Row → Verdict
move_verdict g id seq None = Absent
move_verdict g id seq (Some row) =
    if id == g.leader then Leader else (if nat_le seq row.seq then Stale else Accepted)

abbrev pub verdict_on : GroupState → Change → Verdict
verdict_on g (Join member) = join_verdict g member.id
verdict_on g (Move id seq at) = move_verdict g id seq (row_of id g.rows)
verdict_on g (Leave id) = leave_verdict g id

abbrev pub is_accepted : Verdict → Bool
is_accepted Accepted = true
is_accepted Retired = false
is_accepted Present = false
is_accepted Full = false
is_accepted Absent = false
is_accepted Leader = false
is_accepted Stale = false

-- the group as a change leaves it: a refused one changes nothing
abbrev pub after_change : List RegionSum → GroupState → Change → GroupState
after_change sums g change = if is_accepted (verdict_on g change) then with_change sums g change else g

-- each change with its verdict
abbrev pub judged : List RegionSum → GroupState → List Change → List (Change × Verdict)
judged sums g [] = []
judged sums g (change ∷ changes) =
    (change, verdict_on g change) ∷ judged sums (after_change sums g change) changes

abbrev pub verdicts_on : GroupState → List Change → List (Change × Verdict)
verdicts_on g changes = judged (region_sums g.rows) g changes

-- the item: the accepted changes
abbrev pub accepted : List (Change × Verdict) → List Change
accepted verdicts = map (λ (v : Change × Verdict). v.0) (filter (λ (v : Change × Verdict). is_accepted v.1) verdicts)

abbrev pub item_of : GroupState → List Change → List Change
item_of g changes = accepted (verdicts_on g changes)

-- changes that are all accepted
abbrev pub all_accepted : List Change → List (Change × Verdict)
all_accepted changes = map (λ change. (change, Accepted)) changes
