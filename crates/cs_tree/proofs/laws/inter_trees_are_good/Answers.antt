use Rattle.cs_tree.proofs.GoodInter.{IsTreeOver-inter, inter-there}
use Rattle.cs_tree.proofs.laws.inter_trees_are_good.Goals as goal

-- each region has a representative, and one is nearest to the centroid
pub returns-clause-there : goal.returns-clause-there
returns-clause-there c = λ summaries rolls colour. inter-there colour summaries rolls

-- by the recursion that makes it
pub returns-clause-tree : goal.returns-clause-tree
returns-clause-tree c = λ summaries rolls colour. IsTreeOver-inter colour summaries rolls
