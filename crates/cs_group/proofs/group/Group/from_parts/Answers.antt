use Rattle.std.proofs.Common.{◌≡◌, rules}
use Rattle.cs_group.proofs.Moves.{placed-from_none}
use Rattle.cs_group.proofs.group.Group.from_parts.Goals as goal

-- from none on the rows are placed as they stand
pub from_state-requires : goal.from_state-requires
from_state-requires c =
    let rows = c.args.rows.now in
    let placed = placed-from_none rows c.requires.staffed.in_order c.requires.staffed.distinct in
    let table : c.in_ok-table.table ≡ rows = rw (c.new-none.ensures, c.as_slice.ensures.value, placed) at c.in_ok-table.ensures in
    let retired : c.in_ok-retired.retired ≡ c.args.retired.now = search rules in
    rw (table, retired) c.requires

pub returns : goal.returns
returns c =
    let rows = c.args.rows.now in
    let placed = placed-from_none rows c.requires.staffed.in_order c.requires.staffed.distinct in
    let table : c.in_ok-table.table ≡ rows = rw (c.new-none.ensures, c.as_slice.ensures.value, placed) at c.in_ok-table.ensures in
    let retired : c.in_ok-retired.retired ≡ c.args.retired.now = search rules in
    rw (table, retired) at c.from_state.ensures
