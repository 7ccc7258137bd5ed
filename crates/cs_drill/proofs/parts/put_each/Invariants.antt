use Rattle.std.proofs.Common.{◌≡◌, ℕ, ◌++◌, map, take}
use Rattle.cs_drill.proofs.parts.put_each.Given as goal

abbrev pub invariant-loop-node : goal.invariant-loop-node
invariant-loop-node g l =
    (stands_for : ℕ → g.row.T.Denot) → ((node : ℕ) (item : g.row.T.Denot) → goal.F-post g l.fn.item_of node item → item ≡ stands_for node)
    → l.items.items ≡ l.initial.items.items ++ map stands_for (take l.node-index l.fn.nodes)
