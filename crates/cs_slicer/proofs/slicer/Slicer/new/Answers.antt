use Rattle.std.proofs.Common.{◌≡◌, ◌≤◌, not, map, Some, subst, sym, ◌∙◌, arith, rules}
use Rattle.std.specs.List.{All, AllByRecursion, filter}
use Rattle.std.proofs.lemmas.List.Elements.{All-from_recursion}
use Rattle.cs_base.specs.Limits.{last_number}
use Rattle.cs_group.specs.Rows.{regions}
use Rattle.cs_group.specs.Taking.{FitsRow}
use Rattle.cs_item.specs.declared.part.Part.{Part}
use Rattle.cs_slicer.specs.Head.{dropped_in, is_same_kind, summaries_in}
use Rattle.cs_slicer.specs.Leavers.{leavers}
use Rattle.cs_slicer.specs.Slice.{slice_in}
use Rattle.cs_slicer.specs.Slicer.{AreWellFormed, Slices, slice_of, slices_in}
use Rattle.cs_slicer.specs.Turn.{middle_rows}
use Rattle.cs_slicer.proofs.Cutting.{after-is}
use Rattle.cs_slicer.proofs.Made.{slices-made}
use Rattle.cs_slicer.proofs.Middle.{spread-middle}
use Rattle.cs_slicer.proofs.Rejoined.{below_cut-middle}
use Rattle.cs_slicer.proofs.Slices.{slices-found}
use Rattle.cs_slicer.proofs.WellFormed.{AreWellFormed-slices_in}
use Rattle.cs_slicer.proofs.slicer.Slicer.new.Goals as goal

-- the rejoined rows are those before the cut
pub parts_of-requires-clause-middle : goal.parts_of-requires-clause-middle
parts_of-requires-clause-middle c =
    let before = c.args.before.now in
    let turn = c.args.turn.now in
    let is = c.in_ok-old.ensures.group in
    c.deref.ensures.value
    ∙ c.in_ok-middle.ensures (middle_rows before turn) (spread-middle before turn is c.requires).in_order (below_cut-middle before turn is c.requires)
    (c.as_slice-2.ensures.value ∙ (c.in_ok-new.ensures.value ∙ after-is before turn is c.requires))

-- and so they are in order
pub parts_of-requires-clause-middle_in_order : goal.parts_of-requires-clause-middle_in_order
parts_of-requires-clause-middle_in_order c =
    let before = c.args.before.now in
    let turn = c.args.turn.now in
    let is = c.in_ok-old.ensures.group in
    let middle : c.deref.result.now ≡ middle_rows before turn = c.deref.ensures.value
    ∙ c.in_ok-middle.ensures (middle_rows before turn) (spread-middle before turn is c.requires).in_order (below_cut-middle before turn is c.requires)
    (c.as_slice-2.ensures.value ∙ (c.in_ok-new.ensures.value ∙ after-is before turn is c.requires)) in
    rw middle (spread-middle before turn is c.requires).in_order

-- what was put together are the slices of the turn, which are well formed
pub invariant_of-result : goal.invariant_of-result
invariant_of-result c =
    let before = c.args.before.now in
    let turn = c.args.turn.now in
    let is = c.in_ok-old.ensures.group in
    let fits : AllByRecursion FitsRow turn.item = rw c.as_slice.ensures at c.in_ok-left.ensures.allowed in
    let number : c.args.epoch ≤ last_number = omega (arith, c.get-number.ensures.value, c.get-number.ensures.not_last) in
    let left : c.left.inside.items.items ≡ leavers turn.item = search rules in
    let dropped : c.in_ok-dropped.field-0 ≡ dropped_in before.rows turn.group.rows =
    rw (c.as_slice-4.ensures.value, c.in_ok-new.ensures.value) at c.in_ok-dropped.ensures in
    let summaries : c.in_ok-summaries.field-0 ≡ summaries_in before.rows turn.group.rows =
    rw (c.as_slice-5.ensures.value, c.in_ok-old.ensures.value) at c.in_ok-summaries.ensures in
    let touched : c.in_ok-touched.field-0 ≡ map (λ (p : Part). p.region) (filter (λ (p : Part). not (is_same_kind p.kind)) c.in_ok-parts.parts) =
    search rules in
    let made =
    slices-made before turn c.args.epoch is c.requires c.left.inside.items.items c.in_ok-dropped.field-0 c.in_ok-summaries.field-0 c.in_ok-touched.field-0
    c.in_ok-parts.parts left dropped summaries touched c.in_ok-parts.ensures in
    subst AreWellFormed (sym made) (AreWellFormed-slices_in before turn is c.requires fits c.args.epoch number)

-- each old region has its slice
pub returns-clause-slices : goal.returns-clause-slices
returns-clause-slices c =
    let before = c.args.before.now in
    let turn = c.args.turn.now in
    let is = c.in_ok-old.ensures.group in
    let left : c.left.inside.items.items ≡ leavers turn.item = search rules in
    let dropped : c.in_ok-dropped.field-0 ≡ dropped_in before.rows turn.group.rows =
    rw (c.as_slice-4.ensures.value, c.in_ok-new.ensures.value) at c.in_ok-dropped.ensures in
    let summaries : c.in_ok-summaries.field-0 ≡ summaries_in before.rows turn.group.rows =
    rw (c.as_slice-5.ensures.value, c.in_ok-old.ensures.value) at c.in_ok-summaries.ensures in
    let touched : c.in_ok-touched.field-0 ≡ map (λ (p : Part). p.region) (filter (λ (p : Part). not (is_same_kind p.kind)) c.in_ok-parts.parts) =
    search rules in
    let made =
    slices-made before turn c.args.epoch is c.requires c.left.inside.items.items c.in_ok-dropped.field-0 c.in_ok-summaries.field-0 c.in_ok-touched.field-0
    c.in_ok-parts.parts left dropped summaries touched c.in_ok-parts.ensures in
    made

pub returns-clause-each : goal.returns-clause-each
returns-clause-each c =
    let before = c.args.before.now in
    let turn = c.args.turn.now in
    let is = c.in_ok-old.ensures.group in
    let left : c.left.inside.items.items ≡ leavers turn.item = search rules in
    let dropped : c.in_ok-dropped.field-0 ≡ dropped_in before.rows turn.group.rows =
    rw (c.as_slice-4.ensures.value, c.in_ok-new.ensures.value) at c.in_ok-dropped.ensures in
    let summaries : c.in_ok-summaries.field-0 ≡ summaries_in before.rows turn.group.rows =
    rw (c.as_slice-5.ensures.value, c.in_ok-old.ensures.value) at c.in_ok-summaries.ensures in
    let touched : c.in_ok-touched.field-0 ≡ map (λ (p : Part). p.region) (filter (λ (p : Part). not (is_same_kind p.kind)) c.in_ok-parts.parts) =
    search rules in
    let made =
    slices-made before turn c.args.epoch is c.requires c.left.inside.items.items c.in_ok-dropped.field-0 c.in_ok-summaries.field-0 c.in_ok-touched.field-0
    c.in_ok-parts.parts left dropped summaries touched c.in_ok-parts.ensures in
    let each : Slices → Type 0 = λ slices.
    All (λ region. slice_of slices region ≡ Some (slice_in before turn c.args.epoch region)) (regions before.rows) in
    subst each (sym made)
    (All-from_recursion (λ region. slice_of (slices_in before turn c.args.epoch) region ≡ Some (slice_in before turn c.args.epoch region))
    (regions before.rows) (slices-found before turn c.args.epoch))
