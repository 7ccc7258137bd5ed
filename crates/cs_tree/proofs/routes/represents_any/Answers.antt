use Rattle.std.proofs.Common.{◌<◌, true, false, length, sym, ◌∙◌, refl, arith}
use Rattle.std.proofs.lemmas.List.Folds.{list_any_at, list_any_more}
use Rattle.cs_tree.proofs.Seen.{slice_get-within}
use Rattle.cs_tree.proofs.Unoffered.{represents, represents-read}
use Rattle.cs_tree.proofs.routes.represents_any.Goals as goal

-- the node represents the region at this place
pub returns-then-eq : goal.returns-then-eq
returns-then-eq g c =
    let summaries = g.V.Sight.summaries c.args.sight.now in
    let lt : c.loop-i.i < length summaries = omega arith in
    let d = (slice_get-within summaries c.loop-i.i lt).0 in
    sym (list_any_at (represents c.args.me c.args.colour) summaries c.loop-i.i d lt
    (represents-read c.args.me c.args.colour summaries c.loop-i.i c.summary.result.now c.representative-member.result true d lt c.summary.ensures
    c.representative-member.ensures (sym c.eq.ensures ∙ c.if-eq.true)))

-- or another one does
pub loop-i-preserved : goal.loop-i-preserved
loop-i-preserved g c =
    let summaries = g.V.Sight.summaries c.args.sight.now in
    let lt : c.loop-i.i < length summaries = omega arith in
    let d = (slice_get-within summaries c.loop-i.i lt).0 in
    let other = represents-read c.args.me c.args.colour summaries c.loop-i.i c.summary.result.now c.representative-member.result false d lt c.summary.ensures
    c.representative-member.ensures (sym c.eq.ensures ∙ c.if-eq.false) in
    list_any_more (represents c.args.me c.args.colour) summaries c.loop-i.i d lt ∙ rw (c.loop-i.invariant, other) refl
