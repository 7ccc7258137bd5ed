-- What is wrong with rows that are to be a group's: the first fault that fits.
use Rattle.std.specs.Prelude.{ℕ, ◌+◌, nat_lt, nat_le, ◌&&◌, Bool, true, List, [], ◌∷◌, length, Option}
use Rattle.std.specs.Prelude.{Some, None, if◌then◌else◌}
use Rattle.std.specs.List.{list_all}
use Rattle.std.specs.Option.{option_map}
use Rattle.cs_base.specs.Ascending.{placed_by}
use Rattle.cs_base.specs.Limits.{most_members, most_regions, most_together}
use Rattle.cs_group.specs.declared.checks.RowsFault.{RowsFault}
use Rattle.cs_group.specs.declared.checks.RowsFault.TheVariants.{Order, Repeat, Region, Size, Leader}
use Rattle.cs_group.specs.declared.row.Row.{Row}
use Rattle.cs_group.specs.Group.{GroupState, is_among}
use Rattle.cs_group.specs.Rows.{is_before, has_member, regions}

-- whether each row is below those after it
abbrev pub is_in_order : List Row → Bool
is_in_order [] = true
is_in_order (r ∷ rs) = list_all (is_before r) rs && is_in_order rs

-- the id of the first row whose id was seen before it, those of the rows before it among them
abbrev pub first_repeat : List ℕ → List Row → Option ℕ
first_repeat seen [] = None
first_repeat seen (r ∷ rs) =
    if is_among seen r.member.id then Some r.member.id
    else first_repeat (placed_by (λ n. n) r.member.id seen) rs

-- members, regions, and members and retired ids together are at most so many
abbrev pub is_in_size : List Row → List ℕ → Bool
is_in_size rows retired =
    nat_le (length rows) most_members
    && (nat_le (length (regions rows)) most_regions && nat_le (length rows + length retired) most_together)

-- the fault, unless the test passes
abbrev pub unless : Bool → RowsFault → Option RowsFault
unless passes fault = if passes then None else Some fault

-- the first that there is
abbrev pub first_of : List (Option RowsFault) → Option RowsFault
first_of [] = None
first_of (None ∷ faults) = first_of faults
first_of (Some fault ∷ faults) = Some fault

abbrev pub rows_fault : GroupState → Option RowsFault
rows_fault g = first_of (
    unless (is_in_order g.rows) Order
    ∷ option_map Repeat (first_repeat g.retired g.rows)
    ∷ unless (list_all (λ (r : Row). nat_lt r.region g.next_region) g.rows) Region
    ∷ unless (is_in_size g.rows g.retired) Size
    ∷ unless (has_member g.leader g.rows) Leader
    ∷ [])
