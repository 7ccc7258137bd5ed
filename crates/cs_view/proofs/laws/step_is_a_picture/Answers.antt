use Rattle.cs_view.proofs.Outcomes.{IsView-next, head_epoch, next_epoch}
use Rattle.cs_view.proofs.WellFormed.{IsPicture-next}
use Rattle.cs_view.proofs.laws.step_is_a_picture.Goals as goal

-- a step without a fault
pub returns-clause-view : goal.returns-clause-view
returns-clause-view c = λ me mode view head parts after. IsView-next me mode view head parts after

-- whose summaries and rolls are allowed
pub returns-clause-well_formed : goal.returns-clause-well_formed
returns-clause-well_formed c = λ me mode view head parts after. IsPicture-next me mode view head parts after

-- the epoch of the head
pub returns-clause-epoch : goal.returns-clause-epoch
returns-clause-epoch c = λ me mode view head parts after. next_epoch me mode view head parts after

-- whose first fault would be the epoch
pub returns-clause-head : goal.returns-clause-head
returns-clause-head c = λ me mode view head parts outcome. head_epoch me mode view head parts outcome
