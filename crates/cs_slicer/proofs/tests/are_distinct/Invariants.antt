use Rattle.std.proofs.Common.{◌≢◌, ℕ, ◌<◌, get_or}
use Rattle.cs_base.specs.Changes.{id_of}
use Rattle.cs_base.specs.declared.change.Change.{Change}
use Rattle.cs_slicer.proofs.tests.are_distinct.Given as goal

-- so far no id occurs twice
abbrev pub invariant-loop-i : goal.invariant-loop-i
invariant-loop-i l = (j k : ℕ) (d : Change) → j < k → k < l.i → id_of (get_or l.changes j d) ≢ id_of (get_or l.changes k d)
