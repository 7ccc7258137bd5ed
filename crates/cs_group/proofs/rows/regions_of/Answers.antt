use Rattle.std.proofs.Common.{◌≤◌, [], subst, sym, arith}
use Rattle.std.specs.List.{AllByRecursion}
use Rattle.std.proofs.lemmas.List.Sums.{fold_more}
use Rattle.cs_base.specs.Ascending.{placed_by}
use Rattle.cs_base.specs.Limits.{last_number}
use Rattle.cs_base.proofs.Ascending.{All-placed}
use Rattle.cs_group.proofs.rows.regions_of.Goals as goal

-- one more region is placed, which isn't the last number
pub loop-row-preserved : goal.loop-row-preserved
loop-row-preserved c =
    let rows = c.args.rows.now in
    let more = fold_more (λ known r. placed_by (λ n. n) r.region known) [] rows c.loop-row.row-index c.row-item.result c.loop-row-test.true in
    record {
      value = grind (arith, more);
      not_last = subst (AllByRecursion (λ n. n ≤ last_number)) (sym c.in_ok-insert.ensures.placed)
          (All-placed (λ m. m) (λ n. n ≤ last_number) c.get.result c.loop-row.regions (omega (arith, c.get.ensures.not_last)) c.loop-row.invariant.not_last);
    }
