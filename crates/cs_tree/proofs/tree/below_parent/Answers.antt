use Rattle.std.proofs.Common.{ltb, leb, rules}
use Rattle.std.proofs.lemmas.Fn.{always_returns_same}
use Rattle.std.proofs.lemmas.List.Sorted.{IsPartitionedBy-leb, IsPartitionedBy-ltb}
use Rattle.cs_tree.proofs.Edges.{parents-row}
use Rattle.cs_tree.specs.Tree.{Edge}
use Rattle.cs_tree.proofs.tree.below_parent.Goals as goal

-- the two closures compare the parent of each edge with the key
pub returns : goal.returns
returns c =
    let edges = c.args.edges.now in
    let key = c.args.key in
    let from = c.partition_point-from.ensures.partitioned (λ e. ltb e.parent key) (always_returns_same _ _ _ (λ a r h e. search rules))
    (IsPartitionedBy-ltb (λ (e : Edge). e.parent) edges key c.requires) in
    let to = c.partition_point-to.ensures.partitioned (λ e. leb e.parent key) (always_returns_same _ _ _ (λ a r h e. search rules))
    (IsPartitionedBy-leb (λ (e : Edge). e.parent) edges key c.requires) in
    let row = parents-row edges key c.partition_point-from.result c.partition_point-to.result c.partition_point-from.ensures.bound
    c.partition_point-to.ensures.bound from to in
    record { order = row.0; within = c.partition_point-to.ensures.bound; value = row.1 }
