use Rattle.cs_tree.proofs.GoodLocals.{AreGood-locals, IsTreeOver-local, local-there}
use Rattle.cs_tree.proofs.laws.local_trees_are_good.Goals as goal

-- some member has the colour
pub returns-clause-there : goal.returns-clause-there
returns-clause-there c = λ roll colour. local-there colour roll

-- by the recursion that makes it
pub returns-clause-tree : goal.returns-clause-tree
returns-clause-tree c = λ roll colour. IsTreeOver-local colour roll

-- each of them, and no member has two colours
pub returns-clause-all : goal.returns-clause-all
returns-clause-all c = AreGood-locals
