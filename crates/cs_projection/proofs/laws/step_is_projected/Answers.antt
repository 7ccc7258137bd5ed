use Rattle.cs_projection.proofs.Parts.{image-regions, known_parts-fit}
use Rattle.cs_projection.proofs.Steps.{steps}
use Rattle.cs_projection.proofs.laws.step_is_projected.Goals as goal

-- the step has no fault, and each part of the next view is that of the projection
pub returns-clause-step : goal.returns-clause-step
returns-clause-step c = λ before turn epoch known me mode parts is is_next of old fits. steps before turn epoch known me mode parts is is_next of old fits

-- each known region has its part
pub returns-clause-enough : goal.returns-clause-enough
returns-clause-enough c = λ before turn known. known_parts-fit before turn known

-- the image is a filter of the next group's regions
pub returns-clause-again : goal.returns-clause-again
returns-clause-again c = λ before turn known me mode. image-regions before turn known me mode
