use Rattle.std.proofs.Common.{◌≡◌, List, arith, rules, subst, sym}
use Rattle.std.specs.List.{AllByRecursion}
use Rattle.cs_group.specs.Group.{IsGroup, state_of}
use Rattle.cs_group.specs.Rows.{IsRow}
use Rattle.cs_group.specs.declared.row.Row.{Row}
use Rattle.cs_group.proofs.Passed.{IsGroup-checked}
use Rattle.cs_group.proofs.group.Group.from_rows.Goals as goal

-- all checks were passed
pub from_parts-requires : goal.from_parts-requires
from_parts-requires c =
    let next = c.args.next_region in
    let retired = c.args.retired.now in
    let allowed : AllByRecursion IsRow c.args.rows.now = search rules in
    let same : c.in_ok-list.list ≡ c.args.rows.now = search rules in
    let is = IsGroup-checked (state_of c.args.leader c.args.rows.now next retired) allowed (omega (arith, c.ranges.next_region))
    (search rules) (search rules) (search rules) (search rules) (search rules) (search rules) in
    subst (λ (rows : List Row). IsGroup (state_of c.args.leader rows next retired)) (sym same) is
