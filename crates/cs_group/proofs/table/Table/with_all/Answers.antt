use Rattle.std.proofs.Common.{length, List, ap, arith}
use Rattle.std.proofs.lemmas.List.Sums.{fold_more}
use Rattle.cs_group.specs.Table.{with_row}
use Rattle.cs_group.specs.declared.row.Row.{Row}
use Rattle.cs_group.proofs.Edits.{length-without-le}
use Rattle.cs_group.proofs.Moves.{length-with_row-le}
use Rattle.cs_group.proofs.table.Table.with_all.Goals as goal

-- there is room for one more
pub with-requires : goal.with-requires
with-requires c =
    let fewer = length-without-le c.row-item.result.member.id c.loop-row.table in
    omega (arith, fewer, c.loop-row.invariant.few, c.requires, c.loop-row-test.true)

-- one more row has its place
pub loop-row-preserved : goal.loop-row-preserved
loop-row-preserved c =
    let more = fold_more with_row c.args.self.now c.args.rows.now c.loop-row.row-index c.row-item.result c.loop-row-test.true in
    let long = length-with_row-le c.loop-row.table c.row-item.result in
    let longer = ap (λ (rows : List Row). length rows) c.in_ok-table-2.ensures in
    record {
      value = grind (arith, more);
      few = omega (arith, long, longer, c.loop-row.invariant.few);
    }
