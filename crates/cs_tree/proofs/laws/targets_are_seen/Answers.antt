use Rattle.cs_tree.proofs.SeenTargets.{seen-route, seen-start}
use Rattle.cs_tree.proofs.laws.targets_are_seen.Goals as goal

-- by its rules
pub returns-clause-route_targets : goal.returns-clause-route_targets
returns-clause-route_targets c = λ me summaries rolls. seen-route summaries rolls me

-- and the root is a region
pub returns-clause-start_targets : goal.returns-clause-start_targets
returns-clause-start_targets c = λ me summaries rolls. seen-start summaries rolls me
