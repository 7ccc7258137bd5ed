use Rattle.std.proofs.Common.{◌≡◌}
use Rattle.cs_base.specs.Ascending.{IsAscendingBy}
use Rattle.cs_group.proofs.Order.{IsById-members_in}
use Rattle.cs_group.specs.Rows.{rows_in}
use Rattle.cs_group.specs.declared.row.Row.{Row}
use Rattle.cs_roll.specs.Roll.{member_id}
use Rattle.cs_slicer.proofs.Steps.{image_ascends, IsAscendingBy-of_map}
use Rattle.cs_slicer.proofs.rows.roll_in.Goals as goal

-- the members of the region ascend
pub push-requires : goal.push-requires
push-requires c =
    let rows = c.args.rows.now in
    let region = c.args.region in
    let items : c.rows_in-row-items.result.now ≡ rows_in region rows = c.rows_in-row-items.ensures in
    let up : IsAscendingBy (λ (r : Row). r.member.id) (rows_in region rows) =
    IsAscendingBy-of_map member_id (λ (r : Row). r.member) (rows_in region rows) (IsById-members_in region rows c.requires) in
    rw c.loop-row.invariant
    (image_ascends (λ (r : Row). r.member) c.rows_in-row-items.result.now c.loop-row.row-index c.row-item.result c.loop-row-test.true c.row-item.is
    member_id (rw items up))
