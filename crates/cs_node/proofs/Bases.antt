-- Which frames of a log are looked at, as frames come behind.
use Rattle.std.proofs.Common.{◌≡◌, ◌∙◌, ◌==◌, ◌+◌, ℕ, Bool, true, false, cond, List, [], ◌∷◌, ◌++◌, Option, Some, None, refl, ap}
use Rattle.std.proofs.Common.{if◌then◌else◌}
use Rattle.std.specs.List.{list_all}
use Rattle.std.specs.Option.{option_map, option_map_or, option_or, unwrap_or}
use Rattle.std.specs.Prelude.{⊤, Result, Ok, Err}
use Rattle.cs_base.specs.declared.change.Change.{Change}
use Rattle.cs_base.specs.declared.member.Member.{Member}
use Rattle.cs_fields.specs.Numbers.{number_bytes}
use Rattle.cs_fields.specs.declared.fault.PacketFault.{PacketFault}
use Rattle.cs_group.specs.Faults.{rows_fault}
use Rattle.cs_group.specs.Group.{GroupState, state_of}
use Rattle.cs_group.specs.Next.{next_turn}
use Rattle.cs_group.specs.declared.checks.RowsFault.{RowsFault}
use Rattle.cs_group.specs.declared.next.Turn.{Turn}
use Rattle.cs_lead.specs.Leading.{Leading, led_to}
use Rattle.cs_lead.specs.Resume.{after_base, after_item, are_accepted, by_turn, has_as_it_is, resumed_by as leader_resumed, where_sound}
use Rattle.cs_lead.specs.declared.plan.LeadResumed.TheVariants as lead_resumed
use Rattle.cs_packet.specs.EntryField.{entry_bytes, entry_of}
use Rattle.cs_packet.specs.declared.entry.Entry.{Entry}
use Rattle.cs_packet.specs.declared.entry.Entry.TheVariants as entries
use Rattle.cs_node.specs.Folding.{after_entry, begins_as_base, fold_from, from_last_base, of_leader, takes_in}
use Rattle.cs_node.specs.declared.folding.Folded.TheVariants.{Bad, Gives}
use Rattle.cs_node.specs.declared.node.Node.{Node}
use Rattle.cs_node.specs.declared.node.Node.TheVariants as nodes

-- frames, each with its place
abbrev pub Frames : Type 0
Frames = List (ℕ × List ℕ)

-- with a base behind, it alone is looked at
pub last-is_base : (frames : Frames) (frame : ℕ × List ℕ) → begins_as_base frame.1 ≡ true
    → from_last_base (frames ++ frame ∷ []) ≡ Some (frame ∷ [])
last-is_base [] frame is = ap (λ (b : Bool). option_or None (if b then Some (frame ∷ []) else None)) is
last-is_base (first ∷ frames) frame is =
    ap (λ (o : Option Frames). option_or o (if begins_as_base first.1 then Some (first ∷ frames ++ frame ∷ []) else None)) (last-is_base frames frame is)

-- with another frame behind, it is looked at too
pub last-is_other : (frames : Frames) (frame : ℕ × List ℕ) → begins_as_base frame.1 ≡ false
    → from_last_base (frames ++ frame ∷ []) ≡ option_map (λ (found : Frames). found ++ frame ∷ []) (from_last_base frames)
last-is_other [] frame is = ap (λ (b : Bool). option_or None (if b then Some (frame ∷ []) else None)) is
last-is_other (first ∷ frames) frame is =
    ap (λ (o : Option Frames). option_or o (if begins_as_base first.1 then Some (first ∷ frames ++ frame ∷ []) else None)) (last-is_other frames frame is)
    ∙ by (from_last_base frames) (begins_as_base first.1)
  where
    by : (o : Option Frames) (b : Bool)
        → option_or (option_map (λ (found : Frames). found ++ frame ∷ []) o) (if b then Some (first ∷ frames ++ frame ∷ []) else None)
        ≡ option_map (λ (found : Frames). found ++ frame ∷ []) (option_or o (if b then Some (first ∷ frames) else None))
    by (Some found) b = refl
    by None true = refl
    by None false = refl

-- the frames that a leader's log has from its last base on, or all
abbrev pub seen_of : Frames → Frames
seen_of frames = unwrap_or (from_last_base frames) frames

pub seen-base : (frames : Frames) (frame : ℕ × List ℕ) → begins_as_base frame.1 ≡ true → seen_of (frames ++ frame ∷ []) ≡ frame ∷ []
seen-base frames frame is = ap (λ (o : Option Frames). unwrap_or o (frames ++ frame ∷ [])) (last-is_base frames frame is)

pub seen-other : (frames : Frames) (frame : ℕ × List ℕ) → begins_as_base frame.1 ≡ false → seen_of (frames ++ frame ∷ []) ≡ seen_of frames ++ frame ∷ []
seen-other frames frame is =
    ap (λ (o : Option Frames). unwrap_or o (frames ++ frame ∷ [])) (last-is_other frames frame is) ∙ by (from_last_base frames)
  where
    by : (o : Option Frames) → unwrap_or (option_map (λ (found : Frames). found ++ frame ∷ []) o) (frames ++ frame ∷ []) ≡ unwrap_or o frames ++ frame ∷ []
    by None = refl
    by (Some found) = refl

-- ---- bases
-- the entry is a base
abbrev pub IsBase : Entry → Type 0
IsBase (entries.Boot leads own) = ⊥
IsBase (entries.Seq seq at) = ⊥
IsBase (entries.View picture) = ⊥
IsBase (entries.Step slices) = ⊥
IsBase (entries.Gone epoch) = ⊥
IsBase (entries.Item epoch changes) = ⊥
IsBase (entries.Base epoch next_region retired rows changes) = ⊤

-- an entry whose spelling begins as that of a base is one
pub base-entry : (entry : Entry) → begins_as_base (entry_bytes entry) ≡ true → IsBase entry
unfolding entry_bytes number_bytes
base-entry (entries.Boot leads own) begins = let e = begins in cc
base-entry (entries.Seq seq at) begins = let e = begins in cc
base-entry (entries.View picture) begins = let e = begins in cc
base-entry (entries.Step slices) begins = let e = begins in cc
base-entry (entries.Gone epoch) begins = let e = begins in cc
base-entry (entries.Item epoch changes) begins = let e = begins in cc
base-entry (entries.Base epoch next_region retired rows changes) begins = tt

-- it reads of a leader only who it is
pub base-again : (one other : Leading) (entry : Entry) → IsBase entry → one.me ≡ other.me
    → after_entry (nodes.Leader one) entry ≡ after_entry (nodes.Leader other) entry
base-again one other (entries.Boot leads own) is same = absurd is
base-again one other (entries.Seq seq at) is same = absurd is
base-again one other (entries.View picture) is same = absurd is
base-again one other (entries.Step slices) is same = absurd is
base-again one other (entries.Gone epoch) is same = absurd is
base-again one other (entries.Item epoch changes) is same = absurd is
base-again one other (entries.Base epoch next_region retired rows changes) is same =
    ap (λ (me : Member). of_leader (after_base me epoch (state_of me.id rows next_region retired) changes)) same

-- ---- who leads
-- where there is a node, it is the leader
abbrev Leads : Member → Option Node → Type 0
Leads me None = ⊤
Leads me (Some (nodes.Follower f)) = ⊥
Leads me (Some (nodes.Leader leader)) = leader.me ≡ me
Leads me (Some nodes.Left) = ⊥

leads-turn : (me : Member) (before : GroupState) (epoch : ℕ) (o : Option Turn) → Leads me (of_leader (by_turn me before epoch o))
leads-turn me before epoch None = tt
leads-turn me before epoch (Some turn) = go (are_accepted turn.verdicts)
  where
    go : (b : Bool) → Leads me (of_leader (cond b (lead_resumed.Next (led_to me before turn epoch [])) lead_resumed.Breaks))
    go true = refl
    go false = tt

leads-item : (leader : Leading) (epoch : ℕ) (changes : List Change) → Leads leader.me (of_leader (after_item leader epoch changes))
leads-item leader epoch changes = go (epoch == leader.view.epoch + 1)
  where
    go : (b : Bool)
        → Leads leader.me (of_leader (cond b (by_turn leader.me leader.group epoch (next_turn leader.group changes)) lead_resumed.Breaks))
    go true = leads-turn leader.me leader.group epoch (next_turn leader.group changes)
    go false = tt

leads-base : (me : Member) (epoch : ℕ) (before : GroupState) (changes : List Change) → Leads me (of_leader (after_base me epoch before changes))
leads-base me epoch before changes = go (list_all (has_as_it_is me) before.rows) (rows_fault before)
  where
    go : (b : Bool) (o : Option RowsFault)
        → Leads me (of_leader (cond b (where_sound o (by_turn me before epoch (next_turn before changes))) lead_resumed.Breaks))
    go true None = leads-turn me before epoch (next_turn before changes)
    go true (Some fault) = tt
    go false o = tt

-- an entry of its log leaves a leader who it is
leads-entry : (leader : Leading) (entry : Entry) → Leads leader.me (of_leader (leader_resumed leader entry))
leads-entry leader (entries.Boot leads own) = tt
leads-entry leader (entries.Seq seq at) = tt
leads-entry leader (entries.View picture) = tt
leads-entry leader (entries.Step slices) = tt
leads-entry leader (entries.Gone epoch) = tt
leads-entry leader (entries.Item epoch changes) = leads-item leader epoch changes
leads-entry leader (entries.Base epoch next_region retired rows changes) =
    leads-base leader.me epoch (state_of leader.me.id rows next_region retired) changes

leads-payload : (leader : Leading) (r : Result Entry PacketFault) → Leads leader.me (takes_in (Some (nodes.Leader leader)) r)
leads-payload leader (Ok entry) = leads-entry leader entry
leads-payload leader (Err fault) = tt

-- and so do its frames
pub leader-again : (leader : Leading) (frames : Frames) (node : Node) → fold_from (nodes.Leader leader) frames ≡ Gives node
    → (again : Leading) × (node ≡ nodes.Leader again) × (again.me ≡ leader.me)
leader-again leader [] node gives = (leader, (let e = gives in cc), refl)
leader-again leader (frame ∷ frames) node gives =
    go (takes_in (Some (nodes.Leader leader)) (entry_of frame.1)) (leads-payload leader (entry_of frame.1)) gives
    (λ one is. leader-again one frames node is)
  where
    go : (o : Option Node) → Leads leader.me o → option_map_or (λ (n : Node). fold_from n frames) o (Bad frame.0) ≡ Gives node
        → ((one : Leading) → fold_from (nodes.Leader one) frames ≡ Gives node → (again : Leading) × (node ≡ nodes.Leader again) × (again.me ≡ one.me))
        → (again : Leading) × (node ≡ nodes.Leader again) × (again.me ≡ leader.me)
    go None leads is later = absurd (let e = is in cc)
    go (Some (nodes.Follower f)) leads is later = absurd leads
    go (Some (nodes.Leader one)) leads is later = let found = later one is in (found.0, found.1, found.2 ∙ leads)
    go (Some nodes.Left) leads is later = absurd leads
