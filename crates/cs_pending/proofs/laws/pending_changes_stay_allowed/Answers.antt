use Rattle.cs_base.proofs.Elements.{All-drop, All-take}
use Rattle.cs_base.specs.Ranges.{IsChange}
use Rattle.cs_pending.proofs.Offers.{All-all_offered}
use Rattle.cs_pending.proofs.laws.pending_changes_stay_allowed.Goals as goal

pub returns-clause-offered : goal.returns-clause-offered
returns-clause-offered c pending changes before all = All-all_offered IsChange pending changes before all

pub returns-clause-front : goal.returns-clause-front
returns-clause-front c pending n all = All-take IsChange n pending all

pub returns-clause-rest : goal.returns-clause-rest
returns-clause-rest c pending n all = All-drop IsChange n pending all
