use Rattle.std.proofs.Common.{◌≡◌, ◌<◌, true, false, not, ℕ, length, get_or, sym, ◌∙◌, append-nil, rules}
use Rattle.std.proofs.lemmas.Option.{get_or_from_slice_get}
use Rattle.cs_group.proofs.Regions.{IsAscending-regions}
use Rattle.cs_group.specs.Group.{is_among}
use Rattle.cs_group.specs.Rows.{regions}
use Rattle.cs_slicer.proofs.Steps.{kept_ascends, kept_more}
use Rattle.cs_slicer.proofs.head.dropped.Goals as goal
use Rattle.cs_slicer.proofs.head.dropped.Goals.{then-not-has_region+in_ok-push, else-not-has_region}

-- the dropped regions ascend as all do
pub push-requires : goal.push-requires
push-requires c =
    let old = regions c.args.before.now.rows in
    let region = c.region-region.result in
    let is : region ≡ get_or old c.loop-i.i region = sym (get_or_from_slice_get old c.loop-i.i region region c.region-region.ensures) in
    let lt : c.loop-i.i < length old = rw c.count-i-end.ensures.value at c.loop-i-test.true in
    let passes : not (is_among (regions c.args.rows.now) region) ≡ true = search rules in
    rw (c.loop-i.invariant, c.get.ensures.value)
    (kept_ascends (λ n. not (is_among (regions c.args.rows.now) n)) old c.loop-i.i region lt is (λ (n : ℕ). n)
    (IsAscending-regions c.args.before.now.rows) passes)

-- one more region
pub loop-i-preserved : goal.loop-i-preserved
loop-i-preserved c =
    let old = regions c.args.before.now.rows in
    let region = c.region-region.result in
    let is : region ≡ get_or old c.loop-i.i region = sym (get_or_from_slice_get old c.loop-i.i region region c.region-region.ensures) in
    let lt : c.loop-i.i < length old = rw c.count-i-end.ensures.value at c.loop-i-test.true in
    let more = kept_more (λ n. not (is_among (regions c.args.rows.now) n)) old c.loop-i.i region lt is in
    elim c.if-not-has_region.branch [
      | then-not-has_region+in_ok-push w ↦
          let passes : not (is_among (regions c.args.rows.now) region) ≡ true = search rules in
          w.dropped-is ∙ (w.in_ok-push.ensures.ok ∙ (rw (c.loop-i.invariant, w.get.ensures.value) (sym (rw passes at more))))
      | else-not-has_region w ↦
          let passes : not (is_among (regions c.args.rows.now) region) ≡ false = search rules in
          w.dropped-is ∙ (c.loop-i.invariant ∙ sym (rw (passes, append-nil) at more))
    ]
