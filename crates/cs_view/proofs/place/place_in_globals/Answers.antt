use Rattle.std.proofs.Common.{ℕ, Option, sym}
use Rattle.cs_base.specs.declared.member.Member.{Member}
use Rattle.cs_roll.specs.Summary.{RegionSummary}
use Rattle.cs_view.specs.Place.{member_at}
use Rattle.cs_view.proofs.Passing.{filter_map_here, filter_map_none_more}
use Rattle.cs_view.proofs.place.place_in_globals.Goals as goal

-- no summary before this one has the id
pub returns-in-Some : goal.returns-in-Some
returns-in-Some c =
    let there : ℕ × RegionSummary → Option (ℕ × Member) = λ pair. member_at c.args.id (pair.0, pair.1.globals) in
    let pair = c.loop-region-item.result in
    sym (filter_map_here there c.args.summaries.now c.loop-region.region-index pair c.in-Some.place c.loop-region-test.true c.loop-region.invariant
    (rw (← c.loop-region-item.is, ← c.summary.view_is) (sym c.in-Some.ensures)))

pub loop-region-preserved : goal.loop-region-preserved
loop-region-preserved c =
    let there : ℕ × RegionSummary → Option (ℕ × Member) = λ pair. member_at c.args.id (pair.0, pair.1.globals) in
    let pair = c.loop-region-item.result in
    filter_map_none_more there c.args.summaries.now c.loop-region.region-index pair c.loop-region-test.true c.loop-region.invariant
    (rw (← c.loop-region-item.is, ← c.summary.view_is) (sym c.in_default.ensures))
