use Rattle.std.proofs.Common.{◌≡◌, ◌&&◌, not, None, is_some, take}
use Rattle.std.specs.List.{find}
use Rattle.cs_view.specs.Step.{is_known, part_of}
use Rattle.cs_view.proofs.faults.first_missing.Given as goal

-- none so far is missing
abbrev pub invariant-loop-n : goal.invariant-loop-n
invariant-loop-n l = find (λ r. is_known l.rolls r && not (is_some (part_of r l.parts))) (take l.n-index l.touched) ≡ None
