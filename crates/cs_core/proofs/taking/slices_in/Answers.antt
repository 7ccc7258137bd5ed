use Rattle.std.proofs.Common.{◌≡◌, ◌++◌, ◌∷◌, [], ℕ, List, Option, Some, None, get_or, sym, ap, subst, ◌∙◌}
use Rattle.std.specs.List.{AllByRecursion}
use Rattle.cs_base.proofs.Elements.{All-append}
use Rattle.cs_hold.specs.Held.{Held}
use Rattle.cs_item.specs.SliceField.{IsSlice}
use Rattle.cs_item.specs.declared.slice.Slice.{Slice}
use Rattle.cs_tree.proofs.Offers.{filter_map-none, filter_map-some}
use Rattle.cs_core.specs.Holding.{slice_in}
use Rattle.cs_core.proofs.Used.{slices_in-next}
use Rattle.cs_core.proofs.taking.slices_in.Goals as goal
use Rattle.cs_core.proofs.taking.slices_in.Goals.{in-Some+in_ok-copy+in_ok-push, in_default}

-- the slice of the next region ascends behind those so far
pub push-requires : goal.push-requires
push-requires c =
    rw (c.loop-region.invariant.value, c.in_ok-copy.ensures)
    (slices_in-next c.args.held.now c.requires.named c.args.regions.now c.loop-region.region-index 0 c.in-Some.slice.now c.loop-region-test.true
    (sym c.in-Some.ensures.value) c.requires.ascending)

-- the next region has a slice, or none
pub loop-region-preserved : goal.loop-region-preserved
loop-region-preserved c =
    let held : List Held = c.args.held.now in
    let regions : List ℕ = c.args.regions.now in
    let i : ℕ = c.loop-region.region-index in
    let find : ℕ → Option Slice = λ region. slice_in region held in
    let before : List Slice = c.loop-region.slices in
    elim c.match-slice.branch [
      | in-Some+in_ok-copy+in_ok-push w ↦
          let s : Slice = w.in-Some.slice.now in
          let found : slice_in (get_or regions i 0) held ≡ Some s = sym w.in-Some.ensures.value in
          let pushed : c.match-slice.slices ≡ before ++ s ∷ [] =
          w.slices-is ∙ w.in_ok-push.ensures.ok ∙ ap (λ (t : Slice). before ++ t ∷ []) w.in_ok-copy.ensures in
          record {
            value = filter_map-some find regions i 0 s [] before c.match-slice.slices c.loop-region-test.true found c.loop-region.invariant.value pushed;
            allowed =
                subst (AllByRecursion IsSlice) (sym pushed)
                (All-append IsSlice before (s ∷ []) c.loop-region.invariant.allowed (w.in-Some.ensures.allowed, tt));
          }
      | in_default w ↦
          let absent : slice_in (get_or regions i 0) held ≡ None = sym w.in_default.ensures.value in
          let same : c.match-slice.slices ≡ before = w.slices-is in
          record {
            value = filter_map-none find regions i 0 [] c.match-slice.slices c.loop-region-test.true absent (same ∙ c.loop-region.invariant.value);
            allowed = subst (AllByRecursion IsSlice) (sym same) c.loop-region.invariant.allowed;
          }
    ]
