use Rattle.cs_view.proofs.Causes.{IsStepFault-comes, no_memory-taken}
use Rattle.cs_view.proofs.laws.faults_have_causes.Goals as goal

-- by each of its tests
pub returns-clause-taken : goal.returns-clause-taken
returns-clause-taken c = λ me mode p fault. no_memory-taken me mode p fault

-- by each of its tests
pub returns-clause-step : goal.returns-clause-step
returns-clause-step c = λ me mode view head parts fault. IsStepFault-comes view head parts me mode fault
