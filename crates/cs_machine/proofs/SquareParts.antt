-- What a node decides on values, beside its step in names: both over the same contents.
use Rattle.std.proofs.Common.{◌≡◌, ℕ, Some, refl}
use Rattle.std.specs.List.{AllZip}
use Rattle.std.specs.Option.{option_map}
use Rattle.cs_base.specs.Address.{Address}
use Rattle.cs_core.specs.Decision.{body_plan as follower_body}
use Rattle.cs_core.specs.Plans.{only as follower_only}
use Rattle.cs_core.specs.declared.plan.FollowNote.{FollowNote}
use Rattle.cs_lead.specs.Decision.{body_plan as leader_body}
use Rattle.cs_lead.specs.Plans.{only as leader_only}
use Rattle.cs_lead.specs.declared.plan.LeadNote.{LeadNote}
use Rattle.cs_node.specs.Effects.{effects_of_follower, effects_of_leader, quiet as no_effects}
use Rattle.cs_node.specs.Notes.{note_of_follower, note_of_leader}
use Rattle.cs_node.specs.declared.effects.Effects.{Effects}
use Rattle.cs_node.specs.declared.node.Node.{Node as Values}
use Rattle.cs_node.specs.declared.node.Node.TheVariants as nodes
use Rattle.cs_node.specs.declared.note.Note.TheVariants as notes
use Rattle.cs_packet.specs.declared.own.Own.{Own}
use Rattle.cs_packet.specs.declared.packet.Body.{Body}
use Rattle.cs_packet.specs.declared.packet.Packet.{Packet}
use Rattle.cs_machine.specs.Contents.{Contents}
use Rattle.cs_machine.specs.Names.{Name, State, World}
use Rattle.cs_machine.specs.Packets.{body_for}
use Rattle.cs_machine.specs.Squares.{address_in, node_after}
use Rattle.cs_machine.specs.Step.{Step, quiet}
use Rattle.cs_machine.specs.Values.{entry_for, node_for}

-- what a node does with what a packet says
abbrev pub on_body : Values → ℕ → Body → Effects
on_body (nodes.Follower f) from body = effects_of_follower (follower_body f.own f.following from body)
on_body (nodes.Leader leader) from body = effects_of_leader (leader_body leader from body)
on_body nodes.Left from body = no_effects notes.Departed

-- a packet stands for a name over these contents
pub record SendOver (world : World) (c : Contents) (me : ℕ) (send : Address × Packet) (named : ℕ × Name) : Type 0 where
  pub address : address_in world named.0 ≡ Some send.0
  pub packet : send.1 ≡ (let p : Packet = record { from = me; to = named.0; body = body_for c named.1 } in p)

-- effects stand for a step over these contents
pub record SquareAt (world : World) (c : Contents) (own : Own) (before : State) (step : Step) (effects : Effects) : Type 0 where
  pub note : effects.note ≡ step.note
  pub entry : effects.entry ≡ option_map (entry_for c) step.entry
  pub after : node_after (node_for c own before) effects ≡ node_for c own step.state
  pub sends : AllZip (SendOver world c own.id) effects.sends step.sends

module _ (world : World) (c : Contents) (own : Own) (state : State) where
  -- a node that isn't the leader stays as it is
  pub quiet-follower : (note : FollowNote)
      → SquareAt world c own state (quiet state (note_of_follower note)) (effects_of_follower (follower_only note))
  quiet-follower note = record { note = refl; entry = refl; after = refl; sends = tt }

  -- and so does the leader
  pub quiet-leader : (note : LeadNote)
      → SquareAt world c own state (quiet state (note_of_leader note)) (effects_of_leader (leader_only note))
  quiet-leader note = record { note = refl; entry = refl; after = refl; sends = tt }
