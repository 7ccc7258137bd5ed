use Rattle.std.proofs.Common.{◌≡◌, ◌∙◌, nat_lt, false, sym, subst}
use Rattle.std.specs.Result.{IfOk}
use Rattle.cs_core.specs.Snapshots.{next_view, taken_view}
use Rattle.cs_core.specs.declared.plan.Plan.{Plan}
use Rattle.cs_core.proofs.NextPlans.{lt-compared, snap-taken}
use Rattle.cs_core.proofs.Tellable.{reasons-taken}
use Rattle.cs_core.proofs.following.Following.snap.Goals as goal

-- the answer is that of the view that is due
pub returns-clause-plan : goal.returns-clause-plan
returns-clause-plan c =
    let own = c.args.own.now in
    let m = c.args.self.now in
    let picture = c.args.picture.now in
    let late : nat_lt picture.epoch m.view.epoch ≡ false =
    sym (lt-compared picture.epoch m.view.epoch) ∙ rw (← c.view.ensures.value, ← c.epoch.ensures) (sym c.if-lt.ensures) in
    subst (λ (due : Plan). IfOk c.answered.result (λ (plan : Plan). plan ≡ due)) (sym (snap-taken own m picture late))
    (c.answered.ensures.value (next_view own m picture) c.take_view.ensures.ok c.take_view.ensures.fault)

-- whose reasons can be told
pub returns-clause-sound : goal.returns-clause-sound
returns-clause-sound c =
    let own = c.args.own.now in
    let m = c.args.self.now in
    c.answered.ensures.sound (next_view own m c.args.picture.now) c.take_view.ensures.fault
    (reasons-taken own c.args.picture.now (taken_view own m)) c.take_view.ensures.sound
