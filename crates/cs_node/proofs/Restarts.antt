-- A node that comes of a log is what a restart brings back: it holds nothing, nothing is pending, and it has no past.
use Rattle.std.proofs.Common.{◌≡◌, ◌+◌, ◌==◌, ℕ, Bool, true, false, cond, List, [], ◌∷◌, length, Option, Some, None, IfSome, Result, Ok, Err}
use Rattle.std.proofs.Common.{refl, subst}
use Rattle.std.specs.List.{list_all}
use Rattle.std.specs.Option.{option_map_or}
use Rattle.cs_base.specs.declared.change.Change.{Change}
use Rattle.cs_base.specs.declared.member.Member.{Member}
use Rattle.cs_core.specs.Node.{Following, Node as FollowerValues}
use Rattle.cs_core.specs.Resume.{after_seq, after_slices, after_view, as_stepped, as_taken, resumed_by as follower_resumed}
use Rattle.cs_core.specs.Resume.{is_below, seq_of}
use Rattle.cs_core.specs.Taking.{step_with}
use Rattle.cs_core.specs.declared.plan.Resumed.TheVariants as resumed
use Rattle.cs_core.specs.declared.plan.Unfit.{Unfit}
use Rattle.cs_fields.specs.declared.fault.PacketFault.{PacketFault}
use Rattle.cs_group.specs.Faults.{rows_fault}
use Rattle.cs_group.specs.Group.{GroupState, state_of}
use Rattle.cs_group.specs.Next.{next_turn}
use Rattle.cs_group.specs.declared.checks.RowsFault.{RowsFault}
use Rattle.cs_group.specs.declared.next.Turn.{Turn}
use Rattle.cs_item.specs.declared.picture.Picture.{Picture}
use Rattle.cs_item.specs.declared.slice.Slice.{Slice}
use Rattle.cs_lead.specs.Leading.{Leading, led_to}
use Rattle.cs_lead.specs.Resume.{after_base, after_item, are_accepted, by_turn, has_as_it_is, resumed_by as leader_resumed, where_sound}
use Rattle.cs_lead.specs.declared.plan.LeadResumed.TheVariants as lead_resumed
use Rattle.cs_packet.specs.EntryField.{entry_of}
use Rattle.cs_packet.specs.declared.entry.Entry.{Entry}
use Rattle.cs_packet.specs.declared.entry.Entry.TheVariants as entries
use Rattle.cs_packet.specs.declared.own.Own.{Own}
use Rattle.cs_view.specs.Taking.{taken}
use Rattle.cs_view.specs.declared.fault.ViewFault.{ViewFault}
use Rattle.cs_view.specs.declared.next.Next.{Next}
use Rattle.cs_view.specs.declared.next.Next.TheVariants as next
use Rattle.cs_node.specs.Folding.{fold, fold_from, goes_on, looked_at, of_follower, of_leader, started_by, takes_in}
use Rattle.cs_node.specs.Logged.{restarted}
use Rattle.cs_node.specs.declared.folding.Folded.TheVariants.{Gives, Bad}
use Rattle.cs_node.specs.declared.node.Node.{Node}
use Rattle.cs_node.specs.declared.node.Node.TheVariants as nodes

-- where there is a node, a restart brings all of it back
abbrev IsBack : Option Node → Type 0
IsBack o = IfSome o (λ node. restarted node ≡ node)

-- ---- a node that isn't the leader

-- a number of a move
seq-back : (own : Own) (o : Option Following) (seq : ℕ) → IsBack (of_follower (after_seq own o seq))
seq-back own None seq = tt
seq-back own (Some m) seq = go (seq == m.seq + 1)
  where
    go : (b : Bool) → IsBack (of_follower (cond b (resumed.Next (record {
      own = own;
      following = Some (record {
        view = m.view;
        held = [];
        used = m.used;
        pending = [];
        seq = seq;
        past = None;
      });
    })) resumed.Breaks))
    go true = refl
    go false = tt

-- a view
view-back : (own : Own) (o : Option Following) (picture : Picture) → IsBack (of_follower (after_view own o picture))
view-back own o picture = go (is_below picture.epoch o) (taken own.id own.mode picture)
  where
    kept : (b : Bool) (view : Picture) → IsBack (of_follower (cond b (resumed.Next (record {
      own = own;
      following = Some (record {
        view = view;
        held = [];
        used = [];
        pending = [];
        seq = seq_of o;
        past = None;
      });
    })) resumed.Breaks))
    kept true view = refl
    kept false view = tt

    go : (b : Bool) (r : Result Picture ViewFault) → IsBack (of_follower (cond b resumed.Breaks (as_taken own (seq_of o) picture r)))
    go true r = tt
    go false (Err fault) = tt
    go false (Ok view) = kept (length view.rolls == length picture.rolls) view

-- slices
slices-back : (own : Own) (o : Option Following) (slices : List Slice) → IsBack (of_follower (after_slices own o slices))
slices-back own None slices = tt
slices-back own (Some m) [] = tt
slices-back own (Some m) (w ∷ rest) = go (step_with own m.view w (w ∷ rest))
  where
    go : (r : Result Next Unfit) → IsBack (of_follower (as_stepped own m (w ∷ rest) r))
    go (Ok (next.Member view)) = refl
    go (Ok next.Departed) = tt
    go (Err reason) = tt

-- any entry
follower-back : (f : FollowerValues) (entry : Entry) → IsBack (of_follower (follower_resumed f.own f.following entry))
follower-back f (entries.Boot leads own) = tt
follower-back f (entries.Seq seq at) = seq-back f.own f.following seq
follower-back f (entries.View picture) = view-back f.own f.following picture
follower-back f (entries.Step slices) = slices-back f.own f.following slices
follower-back f (entries.Gone epoch) = refl
follower-back f (entries.Item epoch changes) = tt
follower-back f (entries.Base epoch next_region retired rows changes) = tt

-- ---- the leader

-- the changes of an epoch
turn-back : (me : Member) (before : GroupState) (epoch : ℕ) (o : Option Turn) → IsBack (of_leader (by_turn me before epoch o))
turn-back me before epoch None = tt
turn-back me before epoch (Some turn) = go (are_accepted turn.verdicts)
  where
    go : (b : Bool) → IsBack (of_leader (cond b (lead_resumed.Next (led_to me before turn epoch [])) lead_resumed.Breaks))
    go true = refl
    go false = tt

-- an item
item-back : (leader : Leading) (epoch : ℕ) (changes : List Change) → IsBack (of_leader (after_item leader epoch changes))
item-back leader epoch changes = go (epoch == leader.view.epoch + 1)
  where
    go : (b : Bool) → IsBack (of_leader (cond b (by_turn leader.me leader.group epoch (next_turn leader.group changes)) lead_resumed.Breaks))
    go true = turn-back leader.me leader.group epoch (next_turn leader.group changes)
    go false = tt

-- a base
base-back : (me : Member) (epoch : ℕ) (before : GroupState) (changes : List Change) → IsBack (of_leader (after_base me epoch before changes))
base-back me epoch before changes = go (list_all (has_as_it_is me) before.rows) (rows_fault before)
  where
    go : (b : Bool) (o : Option RowsFault)
        → IsBack (of_leader (cond b (where_sound o (by_turn me before epoch (next_turn before changes))) lead_resumed.Breaks))
    go true None = turn-back me before epoch (next_turn before changes)
    go true (Some fault) = tt
    go false o = tt

-- any entry
leader-back : (leader : Leading) (entry : Entry) → IsBack (of_leader (leader_resumed leader entry))
leader-back leader (entries.Boot leads own) = tt
leader-back leader (entries.Seq seq at) = tt
leader-back leader (entries.View picture) = tt
leader-back leader (entries.Step slices) = tt
leader-back leader (entries.Gone epoch) = tt
leader-back leader (entries.Item epoch changes) = item-back leader epoch changes
leader-back leader (entries.Base epoch next_region retired rows changes) =
    base-back leader.me epoch (state_of leader.me.id rows next_region retired) changes

-- ---- any node

-- the first entry
start-back : (entry : Entry) → IsBack (started_by entry)
start-back (entries.Boot true own) = refl
start-back (entries.Boot false own) = refl
start-back (entries.Seq seq at) = tt
start-back (entries.View picture) = tt
start-back (entries.Step slices) = tt
start-back (entries.Gone epoch) = tt
start-back (entries.Item epoch changes) = tt
start-back (entries.Base epoch next_region retired rows changes) = tt

-- one entry more
entry-back : (before : Option Node) (entry : Entry) → IsBack (goes_on before entry)
entry-back None entry = start-back entry
entry-back (Some (nodes.Follower f)) entry = follower-back f entry
entry-back (Some (nodes.Leader leader)) entry = leader-back leader entry
entry-back (Some nodes.Left) entry = tt

payload-back : (before : Option Node) (r : Result Entry PacketFault) → IsBack (takes_in before r)
payload-back before (Ok entry) = entry-back before entry
payload-back before (Err fault) = tt

-- so a restart brings back all of the node that frames give
from-back : (before : Node) (frames : List (ℕ × List ℕ)) (node : Node) → restarted before ≡ before → fold_from before frames ≡ Gives node
    → restarted node ≡ node
from-back before [] node back gives = subst (λ n. restarted n ≡ n) (let e = gives in cc) back
from-back before (frame ∷ frames) node back gives =
    go (takes_in (Some before) (entry_of frame.1)) (payload-back (Some before) (entry_of frame.1)) gives (λ n is. from-back n frames node is)
  where
    go : (o : Option Node) → IsBack o → option_map_or (λ (n : Node). fold_from n frames) o (Bad frame.0) ≡ Gives node
        → ((n : Node) → restarted n ≡ n → fold_from n frames ≡ Gives node → restarted node ≡ node) → restarted node ≡ node
    go None is gives later = absurd (let e = gives in cc)
    go (Some n) is gives later = later n is gives

-- and all of the node that a log gives
pub fold-back : (frames : List (ℕ × List ℕ)) (node : Node) → fold frames ≡ Gives node → restarted node ≡ node
fold-back [] node gives = absurd (let e = gives in cc)
fold-back (first ∷ frames) node gives = go (takes_in None (entry_of first.1)) (payload-back None (entry_of first.1)) gives
  where
    go : (o : Option Node) → IsBack o → option_map_or (λ (n : Node). fold_from n (looked_at n frames)) o (Bad first.0) ≡ Gives node → restarted node ≡ node
    go None is gives = absurd (let e = gives in cc)
    go (Some n) is gives = from-back n (looked_at n frames) node is gives
