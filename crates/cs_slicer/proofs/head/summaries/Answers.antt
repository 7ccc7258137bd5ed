use Rattle.std.proofs.Common.{◌≡◌, ◌<◌, ℕ, Bool, true, false, not, length, get_or, sym, ap, subst, IfOk, ◌∙◌, append-nil, take_all, arith}
use Rattle.std.specs.Option.{option_map_or}
use Rattle.std.proofs.lemmas.Option.{get_or_from_slice_get}
use Rattle.cs_base.proofs.Ascending.{All-at}
use Rattle.cs_group.proofs.Loops.{read_more}
use Rattle.cs_group.proofs.Members.{length-members_in-le}
use Rattle.cs_group.proofs.Regions.{IsAscending-regions, no_region_empty}
use Rattle.cs_group.specs.Rows.{members_in, regions}
use Rattle.cs_roll.specs.Same.{is_same_summary}
use Rattle.cs_roll.specs.Sight.{at_region}
use Rattle.cs_roll.specs.Summary.{RegionSummary, summary_of}
use Rattle.cs_slicer.specs.Turn.{summaries_of}
use Rattle.cs_slicer.proofs.Beside.{beside, filter-map}
use Rattle.cs_slicer.proofs.Steps.{read_ascends}
use Rattle.cs_slicer.proofs.Summaries.{summary_in}
use Rattle.cs_slicer.proofs.head.summaries.Goals as goal
use Rattle.cs_slicer.proofs.head.summaries.Goals.{then-not-branch+in_ok-push, else-not-branch}

-- a region of the group has members
pub summary-requires-clause-some : goal.summary-requires-clause-some
summary-requires-clause-some c =
    let rows = c.args.after.now.rows in
    let region = c.region-region.result in
    let is : region ≡ get_or (regions rows) c.loop-i.i region = sym (get_or_from_slice_get (regions rows) c.loop-i.i region region c.region-region.ensures) in
    let lt : c.loop-i.i < length (regions rows) = rw c.count-i-end.ensures.value at c.loop-i-test.true in
    let some = All-at (λ n. 0 < length (members_in n rows)) (regions rows) (no_region_empty rows) c.loop-i.i region lt in
    rw (c.in_ok-roll_in.ensures, c.requires.new) (rw (sym is) at some)

-- and no more than the group
pub summary-requires-clause-few : goal.summary-requires-clause-few
summary-requires-clause-few c =
    let few = length-members_in-le c.region-region.result c.args.after.now.rows in
    rw (c.in_ok-roll_in.ensures, c.requires.new) (omega (arith, few, c.count-i-end.ensures.group.staffed.few_members))

-- the summaries ascend as the regions do
pub push-requires : goal.push-requires
push-requires c =
    let rows = c.args.after.now.rows in
    let old = summaries_of c.args.old.now in
    let region = c.region-region.result in
    let is : region ≡ get_or (regions rows) c.loop-i.i region = sym (get_or_from_slice_get (regions rows) c.loop-i.i region region c.region-region.ensures) in
    let lt : c.loop-i.i < length (regions rows) = rw c.count-i-end.ensures.value at c.loop-i-test.true in
    let test : ℕ → Bool = λ n. not (option_map_or (is_same_summary (summary_in rows n)) (at_region n old) false) in
    let summary : c.in_ok-summary.summary ≡ summary_in rows region =
    c.in_ok-summary.ensures ∙ ap summary_of (c.in_ok-roll_in.ensures ∙ ap (members_in region) c.requires.new) in
    let has : c.in_ok-has_summary.field-0 ≡ option_map_or (is_same_summary (summary_in rows region)) (at_region region old) false =
    rw summary at c.in_ok-has_summary.ensures in
    let passes : test region ≡ true = ap not (sym has ∙ c.if-not-branch.true) in
    rw (c.loop-i.invariant, summary)
    (read_ascends test (regions rows) c.loop-i.i region lt is (λ (pair : ℕ × RegionSummary). pair.0) (beside (summary_in rows))
    (IsAscending-regions rows) passes)

-- one more region
pub loop-i-preserved : goal.loop-i-preserved
loop-i-preserved c =
    let rows = c.args.after.now.rows in
    let old = summaries_of c.args.old.now in
    let region = c.region-region.result in
    let is : region ≡ get_or (regions rows) c.loop-i.i region = sym (get_or_from_slice_get (regions rows) c.loop-i.i region region c.region-region.ensures) in
    let lt : c.loop-i.i < length (regions rows) = rw c.count-i-end.ensures.value at c.loop-i-test.true in
    let test : ℕ → Bool = λ n. not (option_map_or (is_same_summary (summary_in rows n)) (at_region n old) false) in
    let more = read_more (beside (summary_in rows)) test (regions rows) c.loop-i.i region lt is in
    let summary : c.in_ok-summary.summary ≡ summary_in rows region =
    c.in_ok-summary.ensures ∙ ap summary_of (c.in_ok-roll_in.ensures ∙ ap (members_in region) c.requires.new) in
    let has : c.in_ok-has_summary.field-0 ≡ option_map_or (is_same_summary (summary_in rows region)) (at_region region old) false =
    rw summary at c.in_ok-has_summary.ensures in
    elim c.if-not-branch.branch [
      | then-not-branch+in_ok-push w ↦
          let passes : test region ≡ true = ap not (sym has ∙ w.if-not-branch.true) in
          w.summaries-is ∙ (w.in_ok-push.ensures.ok ∙ (rw (c.loop-i.invariant, summary) (sym (rw passes at more))))
      | else-not-branch w ↦
          let fails : test region ≡ false = ap not (sym has ∙ w.if-not-branch.false) in
          w.summaries-is ∙ (c.loop-i.invariant ∙ sym (rw (fails, append-nil) at more))
    ]

-- all regions
pub returns : goal.returns
returns c =
    let rows = c.args.after.now.rows in
    let old = summaries_of c.args.old.now in
    let all = take_all c.loop-i.i (regions rows) (omega (arith, c.loop-i-test.false, c.count-i-end.ensures.value)) in
    let is_old : ℕ × RegionSummary → Bool = λ pair. option_map_or (is_same_summary pair.1) (at_region pair.0 old) false in
    let told = c.loop-i.invariant ∙ rw all (sym (filter-map (λ pair. not (is_old pair)) (beside (summary_in rows)) (regions rows))) in
    subst (λ list. IfOk c.shared.result (λ summaries. summaries ≡ list)) told c.shared.ensures
