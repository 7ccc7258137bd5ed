use Rattle.std.proofs.Common.{ℕ, rules, tests}
use Rattle.std.proofs.lemmas.Iterator.{YieldsList-from_map, YieldsList-from_slice}
use Rattle.std.proofs.lemmas.Iterator.Adapters.{items_from_extend}
use Rattle.cs_tree.specs.Tree.{Edge}
use Rattle.cs_tree.proofs.tree.children.Goals as goal

-- the closure gives the child of each edge
pub returns : goal.returns
returns c =
    let child : Edge → ℕ = λ e. e.child in
    let all = items_from_extend c.extend.result c.extend.ensures.ran
    (YieldsList-from_map _ child (YieldsList-from_slice c.args.edges.now cc) c.map.ensures.closure (λ x r q e. search (rules, tests))) in
    search rules
