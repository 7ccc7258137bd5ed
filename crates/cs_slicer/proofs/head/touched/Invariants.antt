use Rattle.std.proofs.Common.{◌≡◌, map, not, take}
use Rattle.std.specs.List.{filter}
use Rattle.cs_item.specs.declared.part.Part.{Part}
use Rattle.cs_slicer.specs.Head.{is_same_kind}
use Rattle.cs_slicer.proofs.head.touched.Given as goal

-- the regions of the touched parts so far
abbrev pub invariant-loop-part : goal.invariant-loop-part
invariant-loop-part l =
    l.touched ≡ map (λ (p : Part). p.region) (filter (λ (p : Part). not (is_same_kind p.kind)) (take l.part-index l.parts))
