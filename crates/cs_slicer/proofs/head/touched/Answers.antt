use Rattle.std.proofs.Common.{◌≡◌, true, not, ℕ, rules}
use Rattle.cs_item.specs.declared.part.Part.{Part}
use Rattle.cs_slicer.specs.Head.{is_same_kind}
use Rattle.cs_slicer.proofs.Steps.{read_ascends}
use Rattle.cs_slicer.proofs.head.touched.Goals as goal

-- the regions ascend as the parts do
pub push-requires : goal.push-requires
push-requires c =
    let passes : not (is_same_kind c.part-item.result.kind) ≡ true = search rules in
    rw (c.loop-part.invariant, c.get.ensures.value)
    (read_ascends (λ (p : Part). not (is_same_kind p.kind)) c.args.parts.now c.loop-part.part-index c.part-item.result c.loop-part-test.true c.part-item.is
    (λ (n : ℕ). n) (λ (p : Part). p.region) c.requires passes)
