use Rattle.std.proofs.Common.{◌≡◌, None, not, take}
use Rattle.std.specs.List.{find}
use Rattle.cs_item.specs.declared.slice.Slice.{Slice}
use Rattle.cs_core.specs.Heads.{is_same_head}
use Rattle.cs_core.proofs.taking.check_heads.Given as goal

-- no head so far differs
abbrev pub invariant-loop-slice : goal.invariant-loop-slice
invariant-loop-slice l = find (λ (s : Slice). not (is_same_head s.head l.least.head)) (take l.slice-index l.used) ≡ None
