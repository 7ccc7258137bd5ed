use Rattle.std.proofs.Common.{◌≡◌, ℕ, suc, ◌<◌, true, get_or}
use Rattle.cs_group.specs.declared.row.Row.{Row}
use Rattle.cs_group.specs.Rows.{is_before}
use Rattle.cs_group.proofs.checks.is_in_order.Given as goal

-- each row so far stands before the next
abbrev pub invariant-loop-i : goal.invariant-loop-i
invariant-loop-i l = (k : ℕ) (d : Row) → suc k < l.i → is_before (get_or l.rows k d) (get_or l.rows (suc k) d) ≡ true
