use Rattle.std.proofs.Common.{sym}
use Rattle.cs_view.specs.Place.{member_at}
use Rattle.cs_view.proofs.Passing.{filter_map_here, filter_map_none_more}
use Rattle.cs_view.proofs.place.place_in_rolls.Goals as goal

-- no roll before this one has the id
pub returns-in-Some : goal.returns-in-Some
returns-in-Some c =
    let pair = c.loop-region-item.result in
    sym (filter_map_here (member_at c.args.id) c.args.rolls.now c.loop-region.region-index pair c.in-Some.place c.loop-region-test.true c.loop-region.invariant
    (rw (← c.loop-region-item.is) (sym c.in-Some.ensures)))

pub loop-region-preserved : goal.loop-region-preserved
loop-region-preserved c =
    let pair = c.loop-region-item.result in
    filter_map_none_more (member_at c.args.id) c.args.rolls.now c.loop-region.region-index pair c.loop-region-test.true c.loop-region.invariant
    (rw (← c.loop-region-item.is) (sym c.in_default.ensures))
