use Rattle.cs_show.proofs.BlockOfText.{block-of-text}
use Rattle.cs_show.proofs.PrintedTrees.{good-printed}
use Rattle.cs_show.proofs.laws.printed_trees_are_good.Goals as goal

-- no line has an LF, and none before the last is `end`
pub returns-clause-found : goal.returns-clause-found
returns-clause-found c = block-of-text

-- the words of the lines are read back
pub returns-clause-good : goal.returns-clause-good
returns-clause-good c = good-printed
