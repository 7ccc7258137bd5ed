use Rattle.std.proofs.Common.{◌≡◌, ◌≢◌, ◌==◌, ◌+◌, true, false, length, sym, subst}
use Rattle.std.specs.Result.{IfOk}
use Rattle.std.proofs.lemmas.Bool.{eqb-false}
use Rattle.cs_fields.specs.Fields.{IsLaterEpoch}
use Rattle.cs_hold.specs.Held.{of_region}
use Rattle.cs_core.specs.Node.{lists}
use Rattle.cs_core.specs.Taking.{gain_of_slice, gain_plan}
use Rattle.cs_core.specs.declared.plan.Plan.{Plan}
use Rattle.cs_core.proofs.NextPlans.{next_slice-taken}
use Rattle.cs_core.proofs.Reasons.{reasons-slice}
use Rattle.cs_core.proofs.following.Following.next_slice.Goals as goal

-- the answer is that of the slice that came
pub returns-clause-plan : goal.returns-clause-plan
returns-clause-plan c =
    let own = c.args.own.now in
    let m = c.args.self.now in
    let s = c.args.slice.now in
    let listed : lists m.view s.part.region ≡ true = rw (← c.view.ensures.value) (sym c.if-not-lists.ensures) in
    let apart : (length (of_region s.part.region m.held) == 4) ≡ false = rw (← c.held.ensures.value) (sym (c.if-is_whole.ensures)) in
    subst (λ (due : Plan). IfOk c.answered.result (λ (plan : Plan). plan ≡ due)) (sym (next_slice-taken own m s listed apart))
    (c.answered.ensures.value (gain_plan own m (gain_of_slice m s)) c.take_slice.ensures.plan c.take_slice.ensures.fault)

-- whose reasons can be told
pub returns-clause-sound : goal.returns-clause-sound
returns-clause-sound c =
    let own = c.args.own.now in
    let m = c.args.self.now in
    let s = c.args.slice.now in
    let listed : lists m.view s.part.region ≡ true = rw (← c.view.ensures.value) (sym c.if-not-lists.ensures) in
    let apart : (length (of_region s.part.region m.held) == 4) ≡ false = rw (← c.held.ensures.value) (sym (c.if-is_whole.ensures)) in
    let later : IsLaterEpoch (m.view.epoch + 1) = subst IsLaterEpoch c.requires.epoch c.requires.slice.head.epoch in
    c.answered.ensures.sound (gain_plan own m (gain_of_slice m s)) c.take_slice.ensures.fault
    (reasons-slice own m s c.view.ensures.keeps later c.requires.slice c.requires.epoch listed
    (eqb-false (length (of_region s.part.region m.held)) 4 apart)) c.take_slice.ensures.sound
