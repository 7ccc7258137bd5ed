use Rattle.std.proofs.Common.{[]}
use Rattle.cs_core.specs.Plans.{or_unfit}
use Rattle.cs_core.specs.Snapshots.{first_view, jump}
use Rattle.cs_core.proofs.Tellable.{reasons-taken}
use Rattle.cs_core.proofs.snapshots.first_snap.Goals as goal

-- the answer is that of the view that is due
pub returns-clause-plan : goal.returns-clause-plan
returns-clause-plan c =
    c.answered.ensures.value (first_view c.args.own.now c.args.picture.now) c.first_view.ensures.ok c.first_view.ensures.fault

-- whose reasons can be told
pub returns-clause-sound : goal.returns-clause-sound
returns-clause-sound c =
    let own = c.args.own.now in
    c.answered.ensures.sound (first_view own c.args.picture.now) c.first_view.ensures.fault
    (reasons-taken own c.args.picture.now (jump own [] 0)) c.first_view.ensures.sound
