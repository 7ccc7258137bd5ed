use Rattle.std.proofs.Common.{arith, ap, sym, ◌∙◌}
use Rattle.std.specs.Option.{option_and_then}
use Rattle.cs_tree.specs.Colour.{representative}
use Rattle.cs_tree.proofs.Seen.{region-found, region-passed}
use Rattle.cs_tree.proofs.routes.representative_at.Goals as goal

-- the region stands at this place
pub returns-then-get-region : goal.returns-then-get-region
returns-then-get-region g c =
    let summaries = g.V.Sight.summaries c.args.sight.now in
    let here = region-found c.args.region c.region.result c.summary.result.now summaries c.loop-i.i (omega arith)
    c.region.ensures c.summary.ensures (sym c.get.ensures.value ∙ c.if-get-region.true) in
    sym (ap (option_and_then (representative c.args.colour)) (sym c.loop-i.invariant ∙ here) ∙ c.representative.ensures)

-- or it is another one
pub loop-i-preserved : goal.loop-i-preserved
loop-i-preserved g c =
    let summaries = g.V.Sight.summaries c.args.sight.now in
    region-passed c.args.region c.region.result summaries c.loop-i.i (omega arith) c.region.ensures (λ e. c.if-get-region.false (c.get.ensures.value ∙ e))
    ∙ c.loop-i.invariant
