use Rattle.std.proofs.Common.{◌≢◌, ◌≤◌, length, sym, ◌∙◌, arith}
use Rattle.cs_tree.proofs.SamePoints.{apart, other-many, other-next, same-all, tested-other, tested-same}
use Rattle.cs_tree.proofs.kept.are_same_points.Goals as goal

-- there are more regions or fewer
pub returns-then-count-regions-clause-test : goal.returns-then-count-regions-clause-test
returns-then-count-regions-clause-test g c =
    let before = g.V.Sight.summaries c.args.old.now in
    let now = g.V.Sight.summaries c.args.new.now in
    let many : length before ≢ length now =
    λ same. c.if-count-regions.true (c.count.ensures.count ∙ (sym same ∙ sym c.count-regions.ensures.count)) in
    sym (tested-other c.args.colour before now
    (other-many c.args.colour before now c.count-regions.ensures.sight.summaries_allowed c.count.ensures.sight.summaries_allowed many))

-- or one differs
pub returns-then-ne-clause-test : goal.returns-then-ne-clause-test
returns-then-ne-clause-test g c =
    let before = g.V.Sight.summaries c.args.old.now in
    let now = g.V.Sight.summaries c.args.new.now in
    let p = c.region_point-before.result in
    let q = c.region_point-now.result in
    let other : p ≢ q = apart p q (sym c.ne.ensures ∙ c.if-ne.true) in
    sym (tested-other c.args.colour before now
    (other-next c.args.colour before now c.loop-i.i p q c.loop-i.invariant c.region_point-before.ensures c.region_point-now.ensures other))

-- or all are the same
pub returns-clause-test : goal.returns-clause-test
returns-clause-test g c =
    let before = g.V.Sight.summaries c.args.old.now in
    let now = g.V.Sight.summaries c.args.new.now in
    let le : length before ≤ c.loop-i.i = omega (arith, c.count-regions.ensures.count) in
    let le' : length now ≤ c.loop-i.i = omega (arith, c.count-regions.ensures.count, c.count.ensures.count, c.if-count-regions.false) in
    sym (tested-same c.args.colour before now (same-all c.args.colour before now c.loop-i.i le le' c.loop-i.invariant))
