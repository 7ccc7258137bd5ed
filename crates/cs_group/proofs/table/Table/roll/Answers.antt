use Rattle.std.proofs.Common.{◌≡◌, ◌==◌, true, sym, ◌∙◌, ap}
use Rattle.cs_group.specs.Rows.{is_before, rows_in}
use Rattle.cs_group.specs.declared.row.Row.{Row}
use Rattle.cs_group.proofs.Lists.{IsPairwise-filter}
use Rattle.cs_group.proofs.Moves.{members_in-inner}
use Rattle.cs_group.proofs.table.Table.roll.Goals as goal

-- the rows of a region are in order
pub roll_of-requires : goal.roll_of-requires
roll_of-requires c =
    let items = c.deref.ensures.value ∙ (c.in_ok-rows.ensures ∙ ap (rows_in c.args.region) (sym c.self.view_is)) in
    rw items (IsPairwise-filter (λ (r : Row) s. is_before r s ≡ true) (λ (r : Row). r.region == c.args.region) c.self.inside.rows c.self.invariant.in_order)

-- and have its members
pub returns : goal.returns
returns c =
    let items = c.deref.ensures.value ∙ c.in_ok-rows.ensures in
    rw (items, members_in-inner c.args.region c.args.self.now) at c.roll_of.ensures
