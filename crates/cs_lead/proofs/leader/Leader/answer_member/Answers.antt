use Rattle.std.proofs.Common.{◌≡◌, true, false, not, Contains, Option, IfOk, sym, ap, subst, ◌∙◌}
use Rattle.std.specs.Option.{is_some, option_map}
use Rattle.cs_group.specs.Rows.{has_member, row_of}
use Rattle.cs_group.specs.declared.row.Row.{Row}
use Rattle.cs_packet.specs.declared.packet.Body.{Body}
use Rattle.cs_lead.specs.Answers.{answer}
use Rattle.cs_lead.specs.declared.plan.LeadPlan.{LeadPlan}
use Rattle.cs_lead.proofs.Answering.{is_some-region, not_found, to_member-body, to_member-none}
use Rattle.cs_lead.proofs.leader.Leader.answer_member.Goals as goal

-- one that isn't a member is told nothing
pub returns-then-is_none-clause-plan : goal.returns-then-is_none-clause-plan
returns-then-is_none-clause-plan c =
    let leader = c.args.self.now in
    let asker = c.args.asker in
    let stays : ¬ (Contains leader.group.retired asker) =
    not_found c.is_retired.result (Contains leader.group.retired asker) (rw c.group.ensures.value at c.is_retired.ensures) c.if-is_retired.false in
    let found : c.region_of.result ≡ option_map (λ (r : Row). r.region) (row_of asker leader.group.rows) =
    rw c.group-2.ensures.value at c.region_of.ensures in
    let absent : has_member asker leader.group.rows ≡ false =
    sym (is_some-region asker leader.group.rows) ∙ (ap is_some (sym found) ∙ (c.is_none.ensures ∙ ap not c.if-is_none.true)) in
    subst (λ (o : Option Body). IfOk c.answer-then-is_none.result (λ (plan : LeadPlan). plan ≡ answer leader c.args.addr asker o))
    (sym (to_member-none leader asker c.args.body stays absent)) c.answer-then-is_none.ensures.plan

-- a member gets its answer
pub returns-clause-plan : goal.returns-clause-plan
returns-clause-plan c =
    let leader = c.args.self.now in
    let asker = c.args.asker in
    let stays : ¬ (Contains leader.group.retired asker) =
    not_found c.is_retired.result (Contains leader.group.retired asker) (rw c.group.ensures.value at c.is_retired.ensures) c.if-is_retired.false in
    let found : c.region_of.result ≡ option_map (λ (r : Row). r.region) (row_of asker leader.group.rows) =
    rw c.group-2.ensures.value at c.region_of.ensures in
    let there : has_member asker leader.group.rows ≡ true =
    sym (is_some-region asker leader.group.rows) ∙ (ap is_some (sym found) ∙ (c.is_none.ensures ∙ ap not c.if-is_none.false)) in
    subst (λ (o : Option Body). IfOk c.answer-2.result (λ (plan : LeadPlan). plan ≡ answer leader c.args.addr asker o))
    (sym (to_member-body leader asker c.args.body stays there)) c.answer-2.ensures.plan
