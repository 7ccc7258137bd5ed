use Rattle.std.proofs.Common.{rules, tests}
use Rattle.std.proofs.lemmas.Iterator.{YieldsList-from_slice}
use Rattle.std.proofs.lemmas.Iterator.Adapters.{items_from_extend}
use Rattle.std.proofs.lemmas.Iterator.Consumers.{YieldsList-from_copied, YieldsList-from_filter_map}
use Rattle.cs_tree.specs.Building.{edge_to}
use Rattle.cs_tree.proofs.builder.edges_of.Goals as goal

-- the closure gives the edge to each key that has a parent
pub returns : goal.returns
returns c =
    let all = items_from_extend c.extend.result c.extend.ensures.ran
    (YieldsList-from_filter_map _ edge_to (YieldsList-from_copied (YieldsList-from_slice c.args.placements.now cc)) c.filter_map.ensures.closure
    (λ x r q e. search (rules, tests))) in
    search rules
