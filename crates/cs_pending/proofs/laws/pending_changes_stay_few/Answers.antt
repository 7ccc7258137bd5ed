use Rattle.cs_pending.proofs.Offers.{IsPending-all_offered, IsPending-drop, IsPending-take}
use Rattle.cs_pending.proofs.laws.pending_changes_stay_few.Goals as goal

pub returns-clause-offered : goal.returns-clause-offered
returns-clause-offered c pending changes is = IsPending-all_offered pending changes is

pub returns-clause-front : goal.returns-clause-front
returns-clause-front c pending n is = IsPending-take n pending is

pub returns-clause-rest : goal.returns-clause-rest
returns-clause-rest c pending n is = IsPending-drop n pending is
