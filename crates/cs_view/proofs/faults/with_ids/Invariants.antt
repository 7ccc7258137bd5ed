use Rattle.std.proofs.Common.{◌≡◌, ℕ, take}
use Rattle.std.specs.List.{fold}
use Rattle.cs_base.specs.Ascending.{placed_by}
use Rattle.cs_view.proofs.faults.with_ids.Given as goal

-- those so far are put in
abbrev pub invariant-loop-n : goal.invariant-loop-n
invariant-loop-n l = l.all ≡ fold (λ before n. placed_by (λ (m : ℕ). m) n before) l.ids (take l.n-index l.more)
