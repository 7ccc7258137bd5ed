use Rattle.std.proofs.Common.{◌≡◌, ◌<◌, length, get_or, sym, ◌∙◌}
use Rattle.std.proofs.lemmas.Option.{get_or_from_slice_get}
use Rattle.cs_group.proofs.Regions.{IsAscending-regions}
use Rattle.cs_group.specs.Rows.{regions}
use Rattle.cs_item.specs.declared.part.Part.{Part}
use Rattle.cs_slicer.specs.Part.{part_in}
use Rattle.cs_slicer.proofs.Steps.{image_ascends, image_more}
use Rattle.cs_slicer.proofs.slicer.parts_of.Goals as goal

-- the parts ascend as the regions do
pub push-requires : goal.push-requires
push-requires c =
    let before = c.args.before.now in
    let old = regions before.rows in
    let region = c.region.result in
    let is : region ≡ get_or old c.loop-i.i region = sym (get_or_from_slice_get old c.loop-i.i region region c.region.ensures) in
    let lt : c.loop-i.i < length old = rw c.count-i-end.ensures.value at c.loop-i-test.true in
    rw (c.loop-i.invariant, c.in_ok-part.ensures)
    (image_ascends (part_in before c.args.turn.now) old c.loop-i.i region lt is (λ (p : Part). p.region) (IsAscending-regions before.rows))

-- one more part
pub loop-i-preserved : goal.loop-i-preserved
loop-i-preserved c =
    let before = c.args.before.now in
    let old = regions before.rows in
    let region = c.region.result in
    let is : region ≡ get_or old c.loop-i.i region = sym (get_or_from_slice_get old c.loop-i.i region region c.region.ensures) in
    let lt : c.loop-i.i < length old = rw c.count-i-end.ensures.value at c.loop-i-test.true in
    c.in_ok-push.ensures.ok
    ∙ (rw (c.loop-i.invariant, c.in_ok-part.ensures) (sym (image_more (part_in before c.args.turn.now) old c.loop-i.i region lt is)))
