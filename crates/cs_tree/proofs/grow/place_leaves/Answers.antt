use Rattle.std.proofs.Common.{◌<◌, length, take, arith}
use Rattle.cs_tree.specs.Building.{placed_keys}
use Rattle.cs_tree.proofs.Counts.{Contains-count, count-Contains}
use Rattle.cs_tree.proofs.Placing.{count-below, next-new}
use Rattle.cs_tree.proofs.grow.place_leaves.Goals as goal

-- there is room for the next leaf
pub place-requires-clause-new : goal.place-requires-clause-new
place-requires-clause-new g c =
    let key = g.P.Keyed.key_of in
    let leaves = c.args.leaves.now in
    let i = c.loop-leaf.leaf-index in
    let lt : i < length leaves = omega (arith, c.loop-leaf-test.true) in
    let new = next-new key (placed_keys c.args.builder.now) leaves i c.leaf-item.result lt c.leaf-item.is c.requires.new (placed_keys c.loop-leaf.builder)
    (λ k. count-below key k c.args.parent c.args.builder.now c.loop-leaf.builder (take i leaves) c.loop-leaf.invariant.placed) in
    rw c.key.ensures.value new

-- and the parent is still there
pub place-requires-clause-parent : goal.place-requires-clause-parent
place-requires-clause-parent g c =
    let key = g.P.Keyed.key_of in
    let parent = c.args.parent in
    let more = count-below key parent parent c.args.builder.now c.loop-leaf.builder (take c.loop-leaf.leaf-index c.args.leaves.now)
    c.loop-leaf.invariant.placed in
    let here = count-Contains parent (placed_keys c.args.builder.now) c.requires.parent in
    Contains-count parent (placed_keys c.loop-leaf.builder) (omega (arith, more, here))
