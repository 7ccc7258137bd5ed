-- The answers of both kinds of nodes, in one.
use Rattle.cs_core.specs.declared.plan.FollowNote.{FollowNote}
use Rattle.cs_core.specs.declared.plan.FollowNote.TheVariants as follow_notes
use Rattle.cs_lead.specs.declared.plan.LeadNote.{LeadNote}
use Rattle.cs_lead.specs.declared.plan.LeadNote.TheVariants as lead_notes
use Rattle.cs_node.specs.declared.note.Note.{Note}
use Rattle.cs_node.specs.declared.note.Note.TheVariants as notes

-- the answer of a node that isn't the leader
abbrev pub note_of_follower : FollowNote → Note
note_of_follower (follow_notes.Told kept) = notes.Told kept
note_of_follower (follow_notes.Moved seq kept) = notes.Moved seq kept
note_of_follower follow_notes.SeqSpent = notes.SeqSpent
note_of_follower (follow_notes.Flushed count) = notes.Flushed count
note_of_follower follow_notes.Nothing = notes.Nothing
note_of_follower (follow_notes.Unknown to) = notes.Unknown to
note_of_follower follow_notes.Held = notes.Held
note_of_follower follow_notes.Passed = notes.Passed
note_of_follower follow_notes.Already = notes.Already
note_of_follower (follow_notes.Advanced epoch) = notes.Advanced epoch
note_of_follower (follow_notes.Jumped epoch) = notes.Jumped epoch
note_of_follower follow_notes.Departed = notes.Departed
note_of_follower (follow_notes.Stale have given) = notes.Stale have given
note_of_follower (follow_notes.Early have given) = notes.Early have given
note_of_follower follow_notes.Answered = notes.Answered
note_of_follower follow_notes.Silent = notes.Silent
note_of_follower (follow_notes.Noted counts) = notes.Noted counts
note_of_follower follow_notes.Idle = notes.Idle
note_of_follower (follow_notes.NotMine to) = notes.NotMine to
note_of_follower (follow_notes.Bad fault) = notes.Bad fault
note_of_follower (follow_notes.Unfit reason) = notes.Unfit reason
note_of_follower follow_notes.Spent = notes.Spent

-- the answer of the leader
abbrev pub note_of_leader : LeadNote → Note
note_of_leader (lead_notes.Stale have given) = notes.Stale have given
note_of_leader (lead_notes.Early have given) = notes.Early have given
note_of_leader lead_notes.Answered = notes.Answered
note_of_leader lead_notes.Silent = notes.Silent
note_of_leader (lead_notes.Noted counts) = notes.Noted counts
note_of_leader lead_notes.Idle = notes.Idle
note_of_leader (lead_notes.NotMine to) = notes.NotMine to
note_of_leader (lead_notes.Bad fault) = notes.Bad fault
note_of_leader (lead_notes.Closed epoch verdicts) = notes.Closed epoch verdicts
note_of_leader lead_notes.Spent = notes.Spent
