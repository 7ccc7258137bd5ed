use Rattle.cs_view.proofs.WellFormed.{IsPicture-shown}
use Rattle.cs_view.proofs.laws.shown_is_a_picture.Goals as goal

-- one of its rolls or all of them
pub returns : goal.returns
returns c = λ only view. IsPicture-shown only view
