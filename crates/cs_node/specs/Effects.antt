-- The plans of both kinds of nodes, in one.
use Rattle.std.specs.Prelude.{ℕ, List, [], Option, None, Some}
use Rattle.cs_core.specs.Decision.{bytes_plan as follower_plan, plan_of as follow}
use Rattle.cs_core.specs.declared.plan.Call.{Call}
use Rattle.cs_core.specs.declared.plan.Outcome.{Outcome}
use Rattle.cs_core.specs.declared.plan.Outcome.TheVariants as follow_outcomes
use Rattle.cs_core.specs.declared.plan.Plan.{Plan}
use Rattle.cs_lead.specs.Decision.{bytes_plan as leader_plan, plan_of as lead}
use Rattle.cs_lead.specs.declared.plan.LeadCall.TheVariants.{Close}
use Rattle.cs_lead.specs.declared.plan.LeadOutcome.{LeadOutcome}
use Rattle.cs_lead.specs.declared.plan.LeadOutcome.TheVariants as lead_outcomes
use Rattle.cs_lead.specs.declared.plan.LeadPlan.{LeadPlan}
use Rattle.cs_packet.specs.PacketField.{packet_of}
use Rattle.cs_node.specs.declared.note.Note.{Note}
use Rattle.cs_node.specs.declared.note.Note.TheVariants as notes
use Rattle.cs_node.specs.Notes.{note_of_follower, note_of_leader}
use Rattle.cs_node.specs.declared.effects.Effects.{Effects}
use Rattle.cs_node.specs.declared.node.Node.{Node}
use Rattle.cs_node.specs.declared.node.Node.TheVariants as nodes

-- what a node that isn't the leader becomes
abbrev pub after_follower : Outcome → Option Node
after_follower follow_outcomes.Same = None
after_follower (follow_outcomes.Next f) = Some (nodes.Follower f)
after_follower follow_outcomes.Gone = Some nodes.Left

-- what the leader becomes
abbrev pub after_leader : LeadOutcome → Option Node
after_leader lead_outcomes.Same = None
after_leader (lead_outcomes.Next leader) = Some (nodes.Leader leader)

abbrev pub effects_of_follower : Plan → Effects
effects_of_follower plan = record {
  entry = plan.entry;
  sends = plan.sends;
  note = note_of_follower plan.note;
  after = after_follower plan.after;
}

abbrev pub effects_of_leader : LeadPlan → Effects
effects_of_leader plan = record {
  entry = plan.entry;
  sends = plan.sends;
  note = note_of_leader plan.note;
  after = after_leader plan.after;
}

-- nothing is logged or sent, and the node stays as it is
abbrev pub quiet : Note → Effects
quiet note = record { entry = None; sends = []; note = note; after = None }

-- what a node that isn't the leader does at a call; no other node has these calls
abbrev pub on_call : Node → Call → Effects
on_call (nodes.Follower f) call = effects_of_follower (follow f.own f.following call)
on_call (nodes.Leader leader) call = quiet notes.Idle
on_call nodes.Left call = quiet notes.Departed

-- what the leader does where it closes its epoch; no other node has this call
abbrev pub on_close : Node → Effects
on_close (nodes.Follower f) = quiet notes.Idle
on_close (nodes.Leader leader) = effects_of_leader (lead leader Close)
on_close nodes.Left = quiet notes.Departed

-- what a node does with bytes
abbrev pub on_bytes : Node → List ℕ → Effects
on_bytes (nodes.Follower f) bytes = effects_of_follower (follower_plan f (packet_of bytes))
on_bytes (nodes.Leader leader) bytes = effects_of_leader (leader_plan leader (packet_of bytes))
on_bytes nodes.Left bytes = quiet notes.Departed
