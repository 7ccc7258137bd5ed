-- What a node decides leads its log on.
use Rattle.std.specs.Prelude.{unwrap_or}
use Rattle.std.proofs.Common.{◌≡◌, ◌≢◌, subst, Option, Some, None, refl, sym, ap, ◌∙◌}
use Rattle.cs_core.specs.Decision.{plan_of as follow}
use Rattle.cs_core.specs.Laws.{IsAsItWas, as_logged, lasting_node}
use Rattle.cs_core.specs.Node.{Node as FollowerValues}
use Rattle.cs_core.specs.Resume.{resumed_by as follower_resumed}
use Rattle.cs_core.specs.Sound.{IsSound as IsFollowSound}
use Rattle.cs_core.specs.declared.plan.Call.{Call}
use Rattle.cs_core.specs.declared.plan.Outcome.{Outcome}
use Rattle.cs_core.specs.declared.plan.Outcome.TheVariants as outcomes
use Rattle.cs_core.specs.declared.plan.Plan.{Plan}
use Rattle.cs_lead.specs.Decision.{plan_of as lead}
use Rattle.cs_lead.specs.Laws.{IsAsItWas as IsLeaderAsItWas, as_logged as leader_logged, lasting}
use Rattle.cs_lead.specs.Leading.{Leading}
use Rattle.cs_lead.specs.Resume.{resumed_by as leader_resumed}
use Rattle.cs_lead.specs.Sound.{IsSound as IsLeadSound}
use Rattle.cs_lead.specs.declared.plan.LeadCall.{LeadCall}
use Rattle.cs_lead.specs.declared.plan.LeadOutcome.{LeadOutcome}
use Rattle.cs_lead.specs.declared.plan.LeadOutcome.TheVariants as lead_outcomes
use Rattle.cs_lead.specs.declared.plan.LeadPlan.{LeadPlan}
use Rattle.cs_packet.specs.declared.entry.Entry.{Entry}
use Rattle.cs_node.specs.Acting.{IsDecision, LeadsOn}
use Rattle.cs_node.specs.Effects.{after_follower, after_leader, effects_of_follower, effects_of_leader, quiet}
use Rattle.cs_node.specs.Folding.{of_follower, of_leader}
use Rattle.cs_node.specs.declared.node.Node.TheVariants as nodes
use Rattle.cs_node.specs.declared.note.Note.TheVariants as notes
use Rattle.cs_node.proofs.Soundness.{IsSound-follower, IsSound-leader, IsSound-left}

-- a node that isn't the leader
pub follower-leads : (f : FollowerValues) (o : Option Entry) (after : Outcome)
    → ((entry : Entry) → o ≡ Some entry → follower_resumed f.own f.following entry ≡ as_logged after)
    → (o ≡ None → IsAsItWas f after) → ((entry : Entry) → o ≡ Some entry → after ≢ outcomes.Same)
    → ((entry : Entry) → follower_resumed f.own f.following entry ≡ follower_resumed f.own (lasting_node f).following entry)
    → LeadsOn (nodes.Follower f) o (unwrap_or (after_follower after) (nodes.Follower f))
follower-leads f None outcomes.Same again unlogged logged lasts = refl
follower-leads f None (outcomes.Next next) again unlogged logged lasts = ap (λ n. nodes.Follower n) (unlogged refl)
follower-leads f None outcomes.Gone again unlogged logged lasts = absurd (unlogged refl)
follower-leads f (Some entry) outcomes.Same again unlogged logged lasts = absurd (logged entry refl refl)
follower-leads f (Some entry) (outcomes.Next next) again unlogged logged lasts = ap of_follower (sym (lasts entry) ∙ again entry refl)
follower-leads f (Some entry) outcomes.Gone again unlogged logged lasts = ap of_follower (sym (lasts entry) ∙ again entry refl)

-- the leader
pub leader-leads : (leader : Leading) (o : Option Entry) (after : LeadOutcome)
    → ((entry : Entry) → o ≡ Some entry → leader_resumed leader entry ≡ leader_logged after)
    → (o ≡ None → IsLeaderAsItWas leader after) → ((entry : Entry) → o ≡ Some entry → after ≢ lead_outcomes.Same)
    → ((entry : Entry) → leader_resumed leader entry ≡ leader_resumed (lasting leader) entry)
    → LeadsOn (nodes.Leader leader) o (unwrap_or (after_leader after) (nodes.Leader leader))
leader-leads leader None lead_outcomes.Same again unlogged logged lasts = refl
leader-leads leader None (lead_outcomes.Next next) again unlogged logged lasts = ap (λ n. nodes.Leader n) (unlogged refl)
leader-leads leader (Some entry) lead_outcomes.Same again unlogged logged lasts = absurd (logged entry refl refl)
leader-leads leader (Some entry) (lead_outcomes.Next next) again unlogged logged lasts = ap of_leader (sym (lasts entry) ∙ again entry refl)

-- ---- decisions

-- what a node that isn't the leader decides
pub IsDecision-follower : (f : FollowerValues) (call : Call) (plan : Plan) → plan ≡ follow f.own f.following call → IsFollowSound plan
    → ((entry : Entry) → (follow f.own f.following call).entry ≡ Some entry
    → follower_resumed f.own f.following entry ≡ as_logged (follow f.own f.following call).after)
    → ((follow f.own f.following call).entry ≡ None → IsAsItWas f (follow f.own f.following call).after)
    → ((entry : Entry) → (follow f.own f.following call).entry ≡ Some entry → (follow f.own f.following call).after ≢ outcomes.Same)
    → ((entry : Entry) → follower_resumed f.own f.following entry ≡ follower_resumed f.own (lasting_node f).following entry)
    → IsDecision (nodes.Follower f) (effects_of_follower plan)
IsDecision-follower f call plan is sound again unlogged logged lasts = record {
  sound = IsSound-follower plan sound;
  leads = subst (λ (p : Plan). LeadsOn (nodes.Follower f) p.entry (unwrap_or (after_follower p.after) (nodes.Follower f))) (sym is)
      (follower-leads f (follow f.own f.following call).entry (follow f.own f.following call).after again unlogged logged lasts);
}

-- what the leader decides
pub IsDecision-leader : (leader : Leading) (call : LeadCall) (plan : LeadPlan) → plan ≡ lead leader call → IsLeadSound plan
    → ((entry : Entry) → (lead leader call).entry ≡ Some entry → leader_resumed leader entry ≡ leader_logged (lead leader call).after)
    → ((lead leader call).entry ≡ None → IsLeaderAsItWas leader (lead leader call).after)
    → ((entry : Entry) → (lead leader call).entry ≡ Some entry → (lead leader call).after ≢ lead_outcomes.Same)
    → ((entry : Entry) → leader_resumed leader entry ≡ leader_resumed (lasting leader) entry)
    → IsDecision (nodes.Leader leader) (effects_of_leader plan)
IsDecision-leader leader call plan is sound again unlogged logged lasts = record {
  sound = IsSound-leader plan sound;
  leads = subst (λ (p : LeadPlan). LeadsOn (nodes.Leader leader) p.entry (unwrap_or (after_leader p.after) (nodes.Leader leader))) (sym is)
      (leader-leads leader (lead leader call).entry (lead leader call).after again unlogged logged lasts);
}

-- what one that left decides
pub IsDecision-left : IsDecision nodes.Left (quiet notes.Departed)
IsDecision-left = record { sound = IsSound-left; leads = refl }
