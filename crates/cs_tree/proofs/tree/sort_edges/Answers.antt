use Rattle.std.proofs.Common.{ℕ, IsSorted, rules}
use Rattle.std.proofs.lemmas.Fn.{always_returns_same}
use Rattle.cs_tree.proofs.InOrder.{edges-known}
use Rattle.cs_tree.specs.Tree.{Edge, edge_cmp}
use Rattle.cs_tree.proofs.tree.sort_edges.Goals as goal

-- the closure gives both ends of each edge
pub returns : goal.returns
returns c =
    let key : Edge → ℕ × ℕ = λ e. (e.parent, e.child) in
    let sorted : IsSorted edge_cmp c.sort_unstable_by_key.new.self.items =
    c.sort_unstable_by_key.ensures.sorted key (always_returns_same _ _ _ (λ a r h e. search rules)) in
    record {
      value = edges-known c.args.edges.now.items c.sort_unstable_by_key.new.self.items c.sort_unstable_by_key.ensures.permutation sorted;
      sorted = sorted;
    }
