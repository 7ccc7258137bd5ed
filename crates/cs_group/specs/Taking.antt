-- Taking a change in: a leaver goes out, and a joiner or a mover stands in its place.
use Rattle.std.specs.Prelude.{ℕ, List, Option, Some, None}
use Rattle.std.specs.List.{fold}
use Rattle.cs_base.specs.Ascending.{placed_by}
use Rattle.cs_base.specs.Axes.{Axes, IsPoint}
use Rattle.cs_base.specs.Limits.{last_id}
use Rattle.cs_base.specs.Ranges.{IsFromTo, IsMember}
use Rattle.cs_base.specs.declared.change.Change.{Change}
use Rattle.cs_base.specs.declared.change.Change.TheVariants.{Join, Move, Leave}
use Rattle.cs_base.specs.declared.member.Member.{Member}
use Rattle.cs_near.specs.declared.keyed.RegionSum.{RegionSum}
use Rattle.cs_group.specs.declared.row.Row.{Row}
use Rattle.cs_group.specs.Group.{GroupState}
use Rattle.cs_group.specs.Place.{place_of}
use Rattle.cs_group.specs.Rows.{placed, row_of, without}

-- what a change brings into a row is in its ranges: 0 as the seq of a move, too, which is never accepted
abbrev pub FitsRow : Change → Type 0
FitsRow (Join member) = IsMember member
FitsRow (Move id seq at) = IsFromTo 0 last_id seq × IsPoint at
FitsRow (Leave id) = Unit {0}

-- the row of a joiner: in its place, with seq 0
abbrev pub joined_row : List RegionSum → Member → Row
joined_row sums member = record { region = place_of sums member.at; member = member; seq = 0 }

-- the row of a mover: in its new place, at its new point, with the seq of its move
abbrev pub moved_row : List RegionSum → ℕ → Axes → Row → Row
moved_row sums seq at row =
    let member : Member = record { id = row.member.id; addr = row.member.addr; at = at } in
    record { region = place_of sums at; member = member; seq = seq }

-- a mover's row, where there is one, gives way to that
abbrev pub with_mover : List RegionSum → GroupState → ℕ → ℕ → Axes → Option Row → GroupState
with_mover sums g id seq at None = g
with_mover sums g id seq at (Some row) =
    record g { rows = placed (moved_row sums seq at row) (without id g.rows) }

-- a leaver's row goes, and its id is retired
abbrev pub without_leaver : GroupState → ℕ → GroupState
without_leaver g id = record g { rows = without id g.rows; retired = placed_by (λ n. n) id g.retired }

-- the group with a change, where places go by these sums
abbrev pub with_change : List RegionSum → GroupState → Change → GroupState
with_change sums g (Join member) = record g { rows = placed (joined_row sums member) g.rows }
with_change sums g (Move id seq at) = with_mover sums g id seq at (row_of id g.rows)
with_change sums g (Leave id) = without_leaver g id

-- the group with each change of an item
abbrev pub with_item : List RegionSum → GroupState → List Change → GroupState
with_item sums g item = fold (with_change sums) g item
