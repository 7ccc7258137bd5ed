-- Laws of the decision: what is logged gives the same node again, without an entry a restart brings back the same as
-- before, and a node that has the slices it needs goes on.
use Rattle.std.specs.Prelude.{◌≡◌, ◌⊎◌, ℕ, ◌+◌, ⊤, List, None, Some, Ok, is_some, true, MatchOption}
use Rattle.std.specs.Option.{option_map}
use Rattle.cs_item.specs.declared.slice.Slice.{Slice}
use Rattle.cs_packet.specs.declared.entry.Entry.{Entry}
use Rattle.cs_packet.specs.declared.own.Own.{Own}
use Rattle.cs_view.specs.Faults.{step}
use Rattle.cs_view.specs.declared.next.Next.{Next}
use Rattle.cs_core.specs.Decision.{plan_of}
use Rattle.cs_core.specs.Holding.{least_slice}
use Rattle.cs_core.specs.Node.{Following, Node, lasting, member}
use Rattle.cs_core.specs.Resume.{resumed_by, resumes_as}
use Rattle.cs_core.specs.Taking.{Gain, heads_fault, parts_of, used_with}
use Rattle.cs_core.specs.declared.plan.Call.{Call}
use Rattle.cs_core.specs.declared.plan.FollowNote.{FollowNote}
use Rattle.cs_core.specs.declared.plan.FollowNote.TheVariants as notes
use Rattle.cs_core.specs.declared.plan.Outcome.{Outcome}
use Rattle.cs_core.specs.declared.plan.Outcome.TheVariants as outcomes
use Rattle.cs_core.specs.declared.plan.Resumed.{Resumed}
use Rattle.cs_core.specs.declared.plan.Resumed.TheVariants as resumed

-- what a restart brings back of a node
abbrev pub lasting_node : Node → Node
lasting_node node = record { own = node.own; following = option_map lasting node.following }

-- what a log gives again of what a plan leads to: the node, but for held pieces, pending changes and the past
abbrev pub as_logged : Outcome → Resumed
as_logged outcomes.Same = resumed.Breaks
as_logged (outcomes.Next node) = resumed.Next (lasting_node node)
as_logged outcomes.Gone = resumed.Gone

-- a restart brings back of the node what it brought back before the call
abbrev pub IsAsItWas : Node → Outcome → Type 0
IsAsItWas node outcomes.Same = ⊤
IsAsItWas node (outcomes.Next after) = lasting_node after ≡ lasting_node node
IsAsItWas node outcomes.Gone = ⊥

-- the slices that a node needs are there, with one head, and step its view
pub record IsComplete (own : Own) (m : Following) (gain : Gain) (w : Slice) (used : List Slice) (after : Next) : Type 0
  where
    pub least : least_slice gain.held ≡ Some w
    pub all_there : used_with m.view gain.held w ≡ Some used
    pub one_head : heads_fault w used ≡ None
    pub steps : step own.id own.mode m.view w.head (parts_of used) ≡ Ok after

-- the node comes to the next epoch, or it departs
abbrev pub GoesOn : ℕ → FollowNote → Type 0
GoesOn epoch note = (note ≡ notes.Advanced (epoch + 1)) ⊎ (note ≡ notes.Departed)
