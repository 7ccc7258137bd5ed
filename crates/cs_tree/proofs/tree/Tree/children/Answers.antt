use Rattle.std.proofs.Common.{ap, ◌∙◌}
use Rattle.cs_tree.specs.Tree.{RootedTree, children_of}
use Rattle.cs_tree.proofs.Edges.{children-rise, children-row, parents-rise}
use Rattle.cs_tree.proofs.tree.Tree.children.Goals as goal

-- the edges ascend
pub below_parent-from-requires : goal.below_parent-from-requires
below_parent-from-requires c = rw c.deref.ensures.value (parents-rise c.self.inside.edges.items c.self.invariant.ascending)

-- and their children stand beside them
pub returns-clause-value : goal.returns-clause-value
returns-clause-value c =
    let inside = c.self.inside in
    let row = rw c.deref.ensures.value at c.below_parent-from.ensures.value in
    let children = children-row inside.edges.items inside.children.items c.args.key c.below_parent-from.result.0 c.below_parent-from.result.1
    c.self.invariant.their_children row in
    rw c.deref-2.ensures.value (children ∙ ap (λ (tree : RootedTree). children_of c.args.key tree.edges) c.self.view_is)

pub returns-clause-ascending : goal.returns-clause-ascending
returns-clause-ascending c =
    let seen = ap (λ (tree : RootedTree). children_of c.args.key tree.edges) c.self.view_is in
    rw (returns-clause-value c) (rw (← seen) (children-rise c.args.key c.self.inside.edges.items c.self.invariant.ascending))
