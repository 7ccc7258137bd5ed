use Rattle.cs_pending.proofs.Reportable.{reportable-all_offered, reportable-drop, reportable-offered, reportable-take}
use Rattle.cs_pending.proofs.laws.pending_changes_stay_reportable.Goals as goal

pub returns-clause-offer : goal.returns-clause-offer
returns-clause-offer c pending change is allowed = reportable-offered pending change is allowed

pub returns-clause-offered : goal.returns-clause-offered
returns-clause-offered c pending changes is all = reportable-all_offered pending changes is all

pub returns-clause-front : goal.returns-clause-front
returns-clause-front c pending n is = reportable-take n pending is

pub returns-clause-rest : goal.returns-clause-rest
returns-clause-rest c pending n is = reportable-drop n pending is
