use Rattle.std.proofs.Common.{◌≡◌, ◌∙◌, ◌<◌, [], ◌∷◌, length, get_or, map, Option, refl, sym, ap, subst, take_all, arith}
use Rattle.std.specs.List.{AllByRecursion}
use Rattle.std.specs.Option.{IsSome}
use Rattle.std.proofs.lemmas.Option.{get_or_from_slice_get, same_Some}
use Rattle.cs_base.proofs.Elements.{All-append}
use Rattle.cs_group.specs.Rows.{regions}
use Rattle.cs_group.proofs.Regions.{IsAscending-regions}
use Rattle.cs_item.specs.SliceField.{IsSlice}
use Rattle.cs_item.specs.declared.slice.Slice.{Slice}
use Rattle.cs_slicer.specs.Slice.{slice_in}
use Rattle.cs_slicer.specs.Slicer.{Slices}
use Rattle.cs_slicer.proofs.Steps.{image_ascends, image_more}
use Rattle.cs_lead.proofs.OldSlices.{old-slice}
use Rattle.cs_lead.proofs.wholes.slices_of.Goals as goal

-- an old region has its slice
pub slice-requires : goal.slice-requires
slice-requires c =
    let before = c.args.before.now in
    let region = c.region.result in
    let lt : c.loop-i.i < length (regions before.rows) = rw c.count-i-end.ensures.value at c.loop-i-test.true in
    let found = old-slice before c.args.turn.now c.args.epoch c.loop-i.i region c.in_ok-slicer.slicer c.in_ok-slicer.ensures.slices lt c.region.ensures in
    subst (λ (o : Option Slice). IsSome o) (sym found) refl

-- the slices ascend as the regions do
pub push-requires : goal.push-requires
push-requires c =
    let before = c.args.before.now in
    let turn = c.args.turn.now in
    let old = regions before.rows in
    let region = c.region.result in
    let is : region ≡ get_or old c.loop-i.i region = sym (get_or_from_slice_get old c.loop-i.i region region c.region.ensures) in
    let lt : c.loop-i.i < length old = rw c.count-i-end.ensures.value at c.loop-i-test.true in
    let found = old-slice before turn c.args.epoch c.loop-i.i region c.in_ok-slicer.slicer c.in_ok-slicer.ensures.slices lt c.region.ensures in
    let same : c.in_ok-slice.field-0 ≡ slice_in before turn c.args.epoch region = same_Some _ _ (sym c.in_ok-slice.ensures.slice ∙ found) in
    rw (c.loop-i.invariant.slices, same)
    (image_ascends (slice_in before turn c.args.epoch) old c.loop-i.i region lt is (λ (s : Slice). s.part.region) (IsAscending-regions before.rows))

-- one more slice
pub loop-i-preserved : goal.loop-i-preserved
loop-i-preserved c =
    let before = c.args.before.now in
    let turn = c.args.turn.now in
    let old = regions before.rows in
    let region = c.region.result in
    let slice = c.in_ok-slice.field-0 in
    let is : region ≡ get_or old c.loop-i.i region = sym (get_or_from_slice_get old c.loop-i.i region region c.region.ensures) in
    let lt : c.loop-i.i < length old = rw c.count-i-end.ensures.value at c.loop-i-test.true in
    let found = old-slice before turn c.args.epoch c.loop-i.i region c.in_ok-slicer.slicer c.in_ok-slicer.ensures.slices lt c.region.ensures in
    let same : c.in_ok-slice.field-0 ≡ slice_in before turn c.args.epoch region = same_Some _ _ (sym c.in_ok-slice.ensures.slice ∙ found) in
    let number : c.in_ok-slicer.slicer.head.epoch ≡ c.args.epoch = ap (λ (s : Slices). s.head.epoch) c.in_ok-slicer.ensures.slices in
    let formed : IsSlice slice = c.in_ok-slice.ensures.well_formed (omega (arith, number, c.requires.later)) in
    record {
      slices = c.in_ok-push.ensures.ok
          ∙ (rw (c.loop-i.invariant.slices, same) (sym (image_more (slice_in before turn c.args.epoch) old c.loop-i.i region lt is)));
      allowed = subst (AllByRecursion IsSlice) (sym c.in_ok-push.ensures.ok)
          (All-append IsSlice c.loop-i.slices (slice ∷ []) c.loop-i.invariant.allowed (formed, tt));
    }

-- all regions
pub returns-clause-value : goal.returns-clause-value
returns-clause-value c =
    let before = c.args.before.now in
    let old = regions before.rows in
    let all = take_all c.loop-i.i old (omega (arith, c.loop-i-test.false, c.count-i-end.ensures.value)) in
    c.loop-i.invariant.slices ∙ ap (map (slice_in before c.args.turn.now c.args.epoch)) all
