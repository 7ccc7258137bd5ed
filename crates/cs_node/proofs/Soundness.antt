-- Effects are as sound as the plans that they come from.
use Rattle.std.proofs.Common.{refl, ap}
use Rattle.cs_core.specs.Sound.{IsIdle as IsFollowIdle, IsNote as IsFollowNote, IsSound as IsFollowSound}
use Rattle.cs_core.specs.declared.plan.FollowNote.{FollowNote}
use Rattle.cs_core.specs.declared.plan.FollowNote.TheVariants as follow_notes
use Rattle.cs_core.specs.declared.plan.Plan.{Plan}
use Rattle.cs_lead.specs.Sound.{IsIdle as IsLeadIdle, IsNote as IsLeadNote, IsSound as IsLeadSound}
use Rattle.cs_lead.specs.declared.plan.LeadNote.{LeadNote}
use Rattle.cs_lead.specs.declared.plan.LeadNote.TheVariants as lead_notes
use Rattle.cs_lead.specs.declared.plan.LeadPlan.{LeadPlan}
use Rattle.cs_node.specs.Effects.{effects_of_follower, effects_of_leader, quiet}
use Rattle.cs_node.specs.Notes.{note_of_follower, note_of_leader}
use Rattle.cs_node.specs.Sound.{IsIdle, IsNote, IsSound}
use Rattle.cs_node.specs.declared.note.Note.TheVariants as notes

-- what a node that isn't the leader may tell, it may tell as a note of any node
note-follower : (note : FollowNote) → IsFollowNote note → IsNote (note_of_follower note)
note-follower (follow_notes.Told kept) is = is
note-follower (follow_notes.Moved seq kept) is = is
note-follower follow_notes.SeqSpent is = is
note-follower (follow_notes.Flushed count) is = is
note-follower follow_notes.Nothing is = is
note-follower (follow_notes.Unknown to) is = is
note-follower follow_notes.Held is = is
note-follower follow_notes.Passed is = is
note-follower follow_notes.Already is = is
note-follower (follow_notes.Advanced epoch) is = is
note-follower (follow_notes.Jumped epoch) is = is
note-follower follow_notes.Departed is = is
note-follower (follow_notes.Stale have given) is = is
note-follower (follow_notes.Early have given) is = is
note-follower follow_notes.Answered is = is
note-follower follow_notes.Silent is = is
note-follower (follow_notes.Noted counts) is = is
note-follower follow_notes.Idle is = is
note-follower (follow_notes.NotMine to) is = is
note-follower (follow_notes.Bad fault) is = is
note-follower (follow_notes.Unfit reason) is = is
note-follower follow_notes.Spent is = is

-- as a note of any node it is idle only where it was idle before
idle-follower : (note : FollowNote) → IsIdle (note_of_follower note) → IsFollowIdle note
idle-follower (follow_notes.Told kept) idle = idle
idle-follower (follow_notes.Moved seq kept) idle = idle
idle-follower follow_notes.SeqSpent idle = idle
idle-follower (follow_notes.Flushed count) idle = idle
idle-follower follow_notes.Nothing idle = idle
idle-follower (follow_notes.Unknown to) idle = idle
idle-follower follow_notes.Held idle = idle
idle-follower follow_notes.Passed idle = idle
idle-follower follow_notes.Already idle = idle
idle-follower (follow_notes.Advanced epoch) idle = idle
idle-follower (follow_notes.Jumped epoch) idle = idle
idle-follower follow_notes.Departed idle = idle
idle-follower (follow_notes.Stale have given) idle = idle
idle-follower (follow_notes.Early have given) idle = idle
idle-follower follow_notes.Answered idle = idle
idle-follower follow_notes.Silent idle = idle
idle-follower (follow_notes.Noted counts) idle = idle
idle-follower follow_notes.Idle idle = idle
idle-follower (follow_notes.NotMine to) idle = idle
idle-follower (follow_notes.Bad fault) idle = idle
idle-follower (follow_notes.Unfit reason) idle = idle
idle-follower follow_notes.Spent idle = idle

-- the effects of a sound plan of a node that isn't the leader
pub IsSound-follower : (plan : Plan) → IsFollowSound plan → IsSound (effects_of_follower plan)
IsSound-follower plan is = record {
  entry = is.entry;
  sends = is.sends;
  note = note-follower plan.note is.note;
  idle = λ idle. ap effects_of_follower (is.idle (idle-follower plan.note idle));
}

-- what the leader may tell, it may tell as a note of any node
note-leader : (note : LeadNote) → IsLeadNote note → IsNote (note_of_leader note)
note-leader (lead_notes.Stale have given) is = is
note-leader (lead_notes.Early have given) is = is
note-leader lead_notes.Answered is = is
note-leader lead_notes.Silent is = is
note-leader (lead_notes.Noted counts) is = is
note-leader lead_notes.Idle is = is
note-leader (lead_notes.NotMine to) is = is
note-leader (lead_notes.Bad fault) is = is
note-leader (lead_notes.Closed epoch verdicts) is = is
note-leader lead_notes.Spent is = is

-- as a note of any node it is idle only where it was idle before
idle-leader : (note : LeadNote) → IsIdle (note_of_leader note) → IsLeadIdle note
idle-leader (lead_notes.Stale have given) idle = idle
idle-leader (lead_notes.Early have given) idle = idle
idle-leader lead_notes.Answered idle = idle
idle-leader lead_notes.Silent idle = idle
idle-leader (lead_notes.Noted counts) idle = idle
idle-leader lead_notes.Idle idle = idle
idle-leader (lead_notes.NotMine to) idle = idle
idle-leader (lead_notes.Bad fault) idle = idle
idle-leader (lead_notes.Closed epoch verdicts) idle = idle
idle-leader lead_notes.Spent idle = idle

-- the effects of a sound plan of the leader
pub IsSound-leader : (plan : LeadPlan) → IsLeadSound plan → IsSound (effects_of_leader plan)
IsSound-leader plan is = record {
  entry = is.entry;
  sends = is.sends;
  note = note-leader plan.note is.note;
  idle = λ idle. ap effects_of_leader (is.idle (idle-leader plan.note idle));
}

-- a node that left does nothing
pub IsSound-left : IsSound (quiet notes.Departed)
IsSound-left = record { entry = tt; sends = tt; note = tt; idle = λ idle. refl }
