-- What a log gives: the node that its entries lead to, or why there is none.
use Rattle.std.specs.Prelude.{◌≡◌, ℕ, ◌==◌, Bool, List, [], ◌∷◌, Option, Some, None, true, false, Result, Ok, Err}
use Rattle.std.specs.Prelude.{if◌then◌else◌}
use Rattle.std.specs.Option.{option_map_or, option_or, unwrap_or}
use Rattle.cs_core.specs.Node.{joining}
use Rattle.cs_core.specs.Resume.{resumed_by as follower_resumed}
use Rattle.cs_core.specs.declared.plan.Resumed.{Resumed}
use Rattle.cs_core.specs.declared.plan.Resumed.TheVariants as resumed
use Rattle.cs_fields.specs.declared.fault.PacketFault.{PacketFault}
use Rattle.cs_lead.specs.Leading.{begun}
use Rattle.cs_lead.specs.Resume.{resumed_by as leader_resumed}
use Rattle.cs_lead.specs.declared.plan.LeadResumed.{LeadResumed}
use Rattle.cs_lead.specs.declared.plan.LeadResumed.TheVariants as lead_resumed
use Rattle.cs_log.specs.Frames.{AreFramesOf}
use Rattle.cs_packet.specs.EntryField.{entry_of}
use Rattle.cs_packet.specs.Own.{member_of_own}
use Rattle.cs_packet.specs.declared.entry.Entry.{Entry}
use Rattle.cs_packet.specs.declared.entry.Entry.TheVariants.{Boot}
use Rattle.cs_node.specs.declared.folding.Folded.{Folded}
use Rattle.cs_node.specs.declared.folding.Folded.TheVariants.{Gives, Empty, Bad}
use Rattle.cs_node.specs.declared.node.Node.{Node}
use Rattle.cs_node.specs.declared.node.Node.TheVariants as nodes

-- the node that the first entry starts
abbrev pub started_by : Entry → Option Node
started_by (Boot true own) = Some (nodes.Leader (begun (member_of_own own)))
started_by (Boot false own) = Some (nodes.Follower (joining own))
started_by entry = None

-- what an entry makes of a node that isn't the leader
abbrev pub of_follower : Resumed → Option Node
of_follower (resumed.Next f) = Some (nodes.Follower f)
of_follower resumed.Gone = Some nodes.Left
of_follower resumed.Breaks = None

-- what it makes of the leader
abbrev pub of_leader : LeadResumed → Option Node
of_leader (lead_resumed.Next leader) = Some (nodes.Leader leader)
of_leader lead_resumed.Breaks = None

-- what a node is after an entry, where that continues its log; one that left has no more entries
abbrev pub after_entry : Node → Entry → Option Node
after_entry (nodes.Follower f) entry = of_follower (follower_resumed f.own f.following entry)
after_entry (nodes.Leader leader) entry = of_leader (leader_resumed leader entry)
after_entry nodes.Left entry = None

-- the first entry starts a node, and each further one continues its log
abbrev pub goes_on : Option Node → Entry → Option Node
goes_on None entry = started_by entry
goes_on (Some node) entry = after_entry node entry

-- what the payload of a frame makes of a node, where it is an entry that goes on
abbrev pub takes_in : Option Node → Result Entry PacketFault → Option Node
takes_in before (Ok entry) = goes_on before entry
takes_in before (Err fault) = None

-- frame by frame; the first that doesn't go on is bad, at its place
abbrev pub fold_from : Node → List (ℕ × List ℕ) → Folded
fold_from node [] = Gives node
fold_from node (frame ∷ frames) =
    option_map_or (λ next. fold_from next frames) (takes_in (Some node) (entry_of frame.1)) (Bad frame.0)

-- whether the payload of a frame begins as that of a base does
abbrev pub begins_as_base : List ℕ → Bool
begins_as_base [] = false
begins_as_base (b ∷ bs) = b == 7

-- the frames from the last of these on, where there is one
abbrev pub from_last_base : List (ℕ × List ℕ) → Option (List (ℕ × List ℕ))
from_last_base [] = None
from_last_base (frame ∷ frames) =
    option_or (from_last_base frames) (if begins_as_base frame.1 then Some (frame ∷ frames) else None)

-- which frames behind the first one are looked at: in a leader's log what stands before the last base isn't
abbrev pub looked_at : Node → List (ℕ × List ℕ) → List (ℕ × List ℕ)
looked_at (nodes.Leader leader) frames = unwrap_or (from_last_base frames) frames
looked_at node frames = frames

-- the first frame starts a node, and those that are looked at continue its log
abbrev pub fold : List (ℕ × List ℕ) → Folded
fold [] = Empty
fold (first ∷ frames) =
    option_map_or (λ node. fold_from node (looked_at node frames)) (takes_in None (entry_of first.1)) (Bad first.0)

-- the whole frames of the bytes give this; what is behind the last one is torn, and tells nothing
abbrev pub FoldsTo : List ℕ → Folded → Type 0
FoldsTo bytes folded = (frames : List (ℕ × List ℕ)) × AreFramesOf bytes frames × (fold frames ≡ folded)
