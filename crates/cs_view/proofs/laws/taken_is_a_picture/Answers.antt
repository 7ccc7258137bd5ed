use Rattle.cs_view.proofs.Outcomes.{IsView-of_taken}
use Rattle.cs_view.proofs.WellFormed.{IsPicture-taken}
use Rattle.cs_view.proofs.laws.taken_is_a_picture.Goals as goal

-- a picture without a fault
pub returns-clause-view : goal.returns-clause-view
returns-clause-view c = λ me mode p view. IsView-of_taken me mode p view

-- a part of its rolls
pub returns-clause-well_formed : goal.returns-clause-well_formed
returns-clause-well_formed c = λ me mode p view. IsPicture-taken me mode p view
