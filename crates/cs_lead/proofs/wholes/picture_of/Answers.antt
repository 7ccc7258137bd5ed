use Rattle.std.proofs.Common.{◌≡◌, ◌<◌, ℕ, List, length, get_or, sym, ap, ◌∙◌, take_all, arith}
use Rattle.std.proofs.lemmas.Option.{get_or_from_slice_get}
use Rattle.cs_base.specs.declared.member.Member.{Member}
use Rattle.cs_base.proofs.Ascending.{All-at}
use Rattle.cs_group.specs.Rows.{members_in, regions}
use Rattle.cs_group.proofs.Members.{length-members_in-le}
use Rattle.cs_group.proofs.Regions.{IsAscending-regions, no_region_empty}
use Rattle.cs_roll.specs.Summary.{RegionSummary, summary_of}
use Rattle.cs_slicer.proofs.Beside.{beside}
use Rattle.cs_slicer.proofs.Steps.{image_ascends, image_more}
use Rattle.cs_slicer.proofs.Summaries.{summary_in}
use Rattle.cs_lead.proofs.WholeViews.{roll_in_rows, whole-made}
use Rattle.cs_lead.proofs.wholes.picture_of.Goals as goal

-- a region of the group has members
pub summary-requires-clause-some : goal.summary-requires-clause-some
summary-requires-clause-some c =
    let rows = c.args.group.now.rows in
    let region = c.region-region.result in
    let is : region ≡ get_or (regions rows) c.loop-i.i region = sym (get_or_from_slice_get (regions rows) c.loop-i.i region region c.region-region.ensures) in
    let lt : c.loop-i.i < length (regions rows) = rw c.count-i-end.ensures.value at c.loop-i-test.true in
    let some = All-at (λ n. 0 < length (members_in n rows)) (regions rows) (no_region_empty rows) c.loop-i.i region lt in
    rw c.in_ok-roll.ensures (rw (sym is) at some)

-- and no more than the group
pub summary-requires-clause-few : goal.summary-requires-clause-few
summary-requires-clause-few c =
    let few = length-members_in-le c.region-region.result c.args.group.now.rows in
    rw c.in_ok-roll.ensures (omega (arith, few, c.count-i-end.ensures.group.staffed.few_members))

-- the summaries ascend as the regions do
pub push-requires : goal.push-requires
push-requires c =
    let rows = c.args.group.now.rows in
    let region = c.region-region.result in
    let is : region ≡ get_or (regions rows) c.loop-i.i region = sym (get_or_from_slice_get (regions rows) c.loop-i.i region region c.region-region.ensures) in
    let lt : c.loop-i.i < length (regions rows) = rw c.count-i-end.ensures.value at c.loop-i-test.true in
    let summary : c.in_ok-summary.summary ≡ summary_in rows region = c.in_ok-summary.ensures ∙ ap summary_of c.in_ok-roll.ensures in
    rw (c.loop-i.invariant.summaries, summary)
    (image_ascends (beside (summary_in rows)) (regions rows) c.loop-i.i region lt is (λ (pair : ℕ × RegionSummary). pair.0) (IsAscending-regions rows))

-- and so do the rolls
pub push-requires-in-loop-i : goal.push-requires-in-loop-i
push-requires-in-loop-i c =
    let rows = c.args.group.now.rows in
    let region = c.region-region.result in
    let is : region ≡ get_or (regions rows) c.loop-i.i region = sym (get_or_from_slice_get (regions rows) c.loop-i.i region region c.region-region.ensures) in
    let lt : c.loop-i.i < length (regions rows) = rw c.count-i-end.ensures.value at c.loop-i-test.true in
    rw (c.loop-i.invariant.rolls, c.in_ok-roll.ensures)
    (image_ascends (beside (roll_in_rows rows)) (regions rows) c.loop-i.i region lt is (λ (pair : ℕ × List Member). pair.0) (IsAscending-regions rows))

-- one more region
pub loop-i-preserved : goal.loop-i-preserved
loop-i-preserved c =
    let rows = c.args.group.now.rows in
    let region = c.region-region.result in
    let is : region ≡ get_or (regions rows) c.loop-i.i region = sym (get_or_from_slice_get (regions rows) c.loop-i.i region region c.region-region.ensures) in
    let lt : c.loop-i.i < length (regions rows) = rw c.count-i-end.ensures.value at c.loop-i-test.true in
    let summary : c.in_ok-summary.summary ≡ summary_in rows region = c.in_ok-summary.ensures ∙ ap summary_of c.in_ok-roll.ensures in
    record {
      summaries = c.in_ok-push.ensures.ok ∙ (rw (c.loop-i.invariant.summaries, summary)
          (sym (image_more (beside (summary_in rows)) (regions rows) c.loop-i.i region lt is)));
      rolls = c.in_ok-push-2.ensures.ok ∙ (rw (c.loop-i.invariant.rolls, c.in_ok-roll.ensures)
          (sym (image_more (beside (roll_in_rows rows)) (regions rows) c.loop-i.i region lt is)));
    }

-- all regions
pub returns-clause-value : goal.returns-clause-value
returns-clause-value c =
    let rows = c.args.group.now.rows in
    let all = take_all c.loop-i.i (regions rows) (omega (arith, c.loop-i-test.false, c.count-i-end.ensures.value)) in
    whole-made c.args.epoch c.args.group.now c.loop-i.summaries c.loop-i.rolls
    (rw all at c.loop-i.invariant.summaries) (rw all at c.loop-i.invariant.rolls)
