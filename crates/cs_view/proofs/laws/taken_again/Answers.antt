use Rattle.cs_view.proofs.Again.{taken-again}
use Rattle.cs_view.proofs.laws.taken_again.Goals as goal

-- what is kept is kept again
pub returns : goal.returns
returns c = λ me mode p view. taken-again me mode p view
