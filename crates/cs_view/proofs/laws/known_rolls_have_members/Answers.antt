use Rattle.cs_view.proofs.WellFormed.{sizes-known}
use Rattle.cs_view.proofs.laws.known_rolls_have_members.Goals as goal

-- each is a part of all
pub returns : goal.returns
returns c = λ view. sizes-known view
