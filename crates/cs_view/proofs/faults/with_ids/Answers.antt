use Rattle.std.proofs.Common.{ℕ, List}
use Rattle.std.proofs.lemmas.List.Sums.{fold_more}
use Rattle.cs_base.specs.Ascending.{placed_by}
use Rattle.cs_view.proofs.faults.with_ids.Goals as goal

-- one more is put in
pub loop-n-preserved : goal.loop-n-preserved
loop-n-preserved c =
    let put : List ℕ → ℕ → List ℕ = λ before n. placed_by (λ (m : ℕ). m) n before in
    rw (fold_more put c.args.ids.now c.args.more.now c.loop-n.n-index 0 c.loop-n-test.true, ← c.loop-n.invariant) c.in_ok-insert.ensures.placed
