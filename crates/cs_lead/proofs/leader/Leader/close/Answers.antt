use Rattle.std.proofs.Common.{◌≡◌, ◌∙◌, ◌<◌, length, take, drop, Some, None, refl, sym, ap, subst, arith, rules, length-take}
use Rattle.std.specs.Result.{IfOk}
use Rattle.cs_base.specs.Limits.{last_number, most_changes}
use Rattle.cs_group.specs.Group.{GroupState}
use Rattle.cs_group.specs.Next.{next_turn, IsTurnFault}
use Rattle.cs_item.specs.declared.picture.Picture.{Picture}
use Rattle.cs_pending.specs.Reportable.{CanBeReported}
use Rattle.cs_pending.proofs.Reportable.{reportable-drop}
use Rattle.cs_lead.specs.Plans.{only}
use Rattle.cs_lead.specs.declared.plan.LeadNote.TheVariants as notes
use Rattle.cs_lead.specs.declared.plan.LeadPlan.{LeadPlan}
use Rattle.cs_lead.proofs.ClosePlans.{close_plan-by_turn}
use Rattle.cs_lead.proofs.Items.{IsChanges-close, IsTurnOf-close}
use Rattle.cs_lead.proofs.leader.Leader.close.Goals as goal

-- the batch is short
pub next-requires-2-clause-few : goal.next-requires-2-clause-few
next-requires-2-clause-few c =
    omega (arith, ap length (c.as_slice.ensures ∙ c.in_ok-batch.ensures.taken), length-take most_changes c.in_ok-pending.pending)

-- what it leads to is a turn of the group
pub close_by-requires-clause-turn : goal.close_by-requires-clause-turn
close_by-requires-clause-turn c =
    let leader = c.args.self.now in
    let before : c.in_ok-pending.pending ≡ leader.pending = c.in_ok-pending.ensures ∙ c.pending.ensures.value in
    let taken : c.as_slice.result.now ≡ take most_changes leader.pending =
    c.as_slice.ensures ∙ (c.in_ok-batch.ensures.taken ∙ ap (take most_changes) before) in
    let next : next_turn leader.group (take most_changes leader.pending) ≡ Some c.in-Ok.turn =
    ap (λ (g : GroupState). next_turn g (take most_changes leader.pending)) (sym c.group.ensures.value)
    ∙ (ap (next_turn c.group.result.now) (sym taken) ∙ c.in-Ok.ensures.turn) in
    IsTurnOf-close leader c.in-Ok.turn c.pending.ensures.keeps next

-- its item can be logged
pub close_by-requires-clause-item : goal.close_by-requires-clause-item
close_by-requires-clause-item c =
    let leader = c.args.self.now in
    let before : c.in_ok-pending.pending ≡ leader.pending = c.in_ok-pending.ensures ∙ c.pending.ensures.value in
    let taken : c.as_slice.result.now ≡ take most_changes leader.pending =
    c.as_slice.ensures ∙ (c.in_ok-batch.ensures.taken ∙ ap (take most_changes) before) in
    let next : next_turn leader.group (take most_changes leader.pending) ≡ Some c.in-Ok.turn =
    ap (λ (g : GroupState). next_turn g (take most_changes leader.pending)) (sym c.group.ensures.value)
    ∙ (ap (next_turn c.group.result.now) (sym taken) ∙ c.in-Ok.ensures.turn) in
    IsChanges-close leader c.in-Ok.turn c.pending.ensures.keeps next

-- and the changes behind the batch are still pending
pub close_by-requires-clause-pending : goal.close_by-requires-clause-pending
close_by-requires-clause-pending c =
    let leader = c.args.self.now in
    let before : c.in_ok-pending.pending ≡ leader.pending = c.in_ok-pending.ensures ∙ c.pending.ensures.value in
    let rest : c.take_front.new.self ≡ drop most_changes leader.pending = c.in_ok-batch.ensures.rest ∙ ap (drop most_changes) before in
    subst CanBeReported (sym rest) (reportable-drop most_changes leader.pending c.pending.ensures.keeps.pending)

-- the plan goes by the turn
pub returns-in-Ok-clause-plan : goal.returns-in-Ok-clause-plan
returns-in-Ok-clause-plan c =
    let leader = c.args.self.now in
    let before : c.in_ok-pending.pending ≡ leader.pending = c.in_ok-pending.ensures ∙ c.pending.ensures.value in
    let taken : c.as_slice.result.now ≡ take most_changes leader.pending =
    c.as_slice.ensures ∙ (c.in_ok-batch.ensures.taken ∙ ap (take most_changes) before) in
    let rest : c.take_front.new.self ≡ drop most_changes leader.pending = c.in_ok-batch.ensures.rest ∙ ap (drop most_changes) before in
    let next : next_turn leader.group (take most_changes leader.pending) ≡ Some c.in-Ok.turn =
    ap (λ (g : GroupState). next_turn g (take most_changes leader.pending)) (sym c.group.ensures.value)
    ∙ (ap (next_turn c.group.result.now) (sym taken) ∙ c.in-Ok.ensures.turn) in
    let at = ap (λ (p : Picture). p.epoch) c.view.ensures.value in
    let left : leader.view.epoch < last_number = omega (arith, at, c.epoch.ensures, c.in-Some.ensures.0) in
    subst (λ (due : LeadPlan). IfOk c.close_by.result (λ (plan : LeadPlan). plan ≡ due))
    (sym (close_plan-by_turn leader c.take_front.new.self (Some c.in-Ok.turn) left rest next)) c.close_by.ensures.plan

-- two plans that are this one
same_plan : (plan due wanted : LeadPlan) → plan ≡ due → wanted ≡ due → plan ≡ wanted
same_plan plan due wanted is wants = is ∙ sym wants

-- or tells that there is none
pub returns-in-Err-Spent-clause-plan : goal.returns-in-Err-Spent-clause-plan
returns-in-Err-Spent-clause-plan c =
    let leader = c.args.self.now in
    let before : c.in_ok-pending.pending ≡ leader.pending = c.in_ok-pending.ensures ∙ c.pending.ensures.value in
    let taken : c.as_slice.result.now ≡ take most_changes leader.pending =
    c.as_slice.ensures ∙ (c.in_ok-batch.ensures.taken ∙ ap (take most_changes) before) in
    let told : next_turn c.group.result.now c.as_slice.result.now ≡ None =
    subst (IsTurnFault (next_turn c.group.result.now c.as_slice.result.now)) c.in-Err-Spent.field-0-is c.in-Err-Spent.ensures.fault in
    let next : next_turn leader.group (take most_changes leader.pending) ≡ None =
    ap (λ (g : GroupState). next_turn g (take most_changes leader.pending)) (sym c.group.ensures.value)
    ∙ (ap (next_turn c.group.result.now) (sym taken) ∙ told) in
    let at = ap (λ (p : Picture). p.epoch) c.view.ensures.value in
    let left : leader.view.epoch < last_number = omega (arith, at, c.epoch.ensures, c.in-Some.ensures.0) in
    same_plan _ (only notes.Spent) _ (search rules)
    (close_plan-by_turn leader (drop most_changes leader.pending) None left refl next)
