use Rattle.std.proofs.Common.{◌-◌, true, false, inl, inr, sym, ◌∙◌, arith, suc}
use Rattle.std.proofs.lemmas.Bool.{cases_lt}
use Rattle.cs_group.proofs.Passed.{adjacent-in_order, adjacent-read, not_in_order}
use Rattle.cs_group.proofs.checks.is_in_order.Goals as goal

-- one more row stands before the next
pub loop-i-preserved : goal.loop-i-preserved
loop-i-preserved c = λ k d lt. elim (cases_lt (suc k) c.loop-i.i) [
  | inl below ↦ c.loop-i.invariant k d below
  | inr last ↦ adjacent-read c.args.rows.now c.loop-i.i c.index-rows-i.result c.index-rows-i-in-loop-i.result (omega arith) c.loop-i-test.true
      c.index-rows-i.is c.index-rows-i-in-loop-i.is true (sym c.if-not-is_before.false ∙ c.is_before.ensures) k d (omega arith)
]

-- this one doesn't
pub returns-then-not-is_before : goal.returns-then-not-is_before
returns-then-not-is_before c =
    let i = c.loop-i.i in
    let read = adjacent-read c.args.rows.now i c.index-rows-i.result c.index-rows-i-in-loop-i.result (omega arith) c.loop-i-test.true c.index-rows-i.is
    c.index-rows-i-in-loop-i.is false (sym c.if-not-is_before.true ∙ c.is_before.ensures) (i - 1) c.index-rows-i.result (omega arith) in
    sym (not_in_order c.args.rows.now (i - 1) c.index-rows-i.result (omega arith) read)

-- each does
pub returns : goal.returns
returns c = sym (adjacent-in_order c.args.rows.now (λ k d lt. c.loop-i.invariant k d (omega arith)))
