use Rattle.std.proofs.Common.{arith}
use Rattle.std.proofs.lemmas.List.Sums.{fold_more}
use Rattle.cs_group.specs.Table.{without_row}
use Rattle.cs_group.proofs.table.Table.without_all.Goals as goal

-- one more row goes
pub loop-row-preserved : goal.loop-row-preserved
loop-row-preserved c =
    let more = fold_more without_row c.args.self.now c.args.rows.now c.loop-row.row-index c.row-item.result c.loop-row-test.true in
    grind (arith, more)
