use Rattle.cs_tree.proofs.Edges.{some-children}
use Rattle.cs_tree.proofs.tree.Tree.is_interior.Goals as goal

pub returns : goal.returns
returns c = rw (c.is_empty.ensures, c.children.ensures.value) (some-children c.args.key c.args.self.now.edges)
