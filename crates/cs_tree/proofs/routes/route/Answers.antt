use Rattle.std.proofs.Common.{sym, ◌∙◌}
use Rattle.cs_tree.specs.Inter.{inter_tree}
use Rattle.cs_tree.proofs.Unoffered.{regions-none}
use Rattle.cs_tree.proofs.routes.route.Goals as goal

-- where the node represents no region the first rule offers nothing
pub with_members-requires-clause-offered : goal.with_members-requires-clause-offered
with_members-requires-clause-offered g c =
    let summaries = g.V.Sight.summaries c.args.sight.now in
    c.new.ensures.items
    ∙ sym (regions-none c.args.me summaries c.args.region c.args.colour (inter_tree c.args.colour summaries)
    (sym c.represents_any.ensures ∙ c.if-represents_any.false))
