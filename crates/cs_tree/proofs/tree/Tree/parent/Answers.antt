use Rattle.std.proofs.Common.{ap, ◌∙◌}
use Rattle.cs_tree.specs.Tree.{RootedTree, parent_of}
use Rattle.cs_tree.proofs.Edges.{no-parent}
use Rattle.cs_tree.proofs.tree.Tree.parent.Goals as goal

pub returns-clause-value : goal.returns-clause-value
returns-clause-value c =
    c.parent_in.ensures ∙ (ap (parent_of c.args.key) c.deref.ensures.value
    ∙ ap (λ (tree : RootedTree). parent_of c.args.key tree.edges) c.self.view_is)

pub returns-clause-none : goal.returns-clause-none
returns-clause-none c = rw (returns-clause-value c) (no-parent c.args.key c.args.self.now.edges)
