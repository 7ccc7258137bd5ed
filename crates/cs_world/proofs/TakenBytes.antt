-- Bytes that come to a node in its place are a call on it.
use Rattle.std.proofs.Common.{◌≡◌, ◌≤◌, ℕ, Bor, List, length, Option, None, Some, IfSome, Ok, ap, refl}
use Rattle.cs_core.specs.Node.{Following as Membership}
use Rattle.cs_log.specs.Tears.{armed_number}
use Rattle.cs_node.specs.Calls.{Acts, Ends}
use Rattle.cs_node.specs.Effects.{on_bytes}
use Rattle.cs_node.specs.Placed.{running, status_after}
use Rattle.cs_node.specs.declared.node.Node.{Node}
use Rattle.cs_node.specs.declared.node.Node.TheVariants as nodes
use Rattle.cs_node.specs.declared.note.Note.{Note}
use Rattle.cs_world.specs.Actions.{CallsAs, DoesCall, unless_torn}
use Rattle.cs_world.specs.Calls.{refused, refused_by_follower}
use Rattle.cs_world.specs.Processes.{Parts, parts_of}
use Rattle.cs_world.specs.declared.call.Answer.{Answer}
use Rattle.cs_world.specs.declared.call.Answer.TheVariants.{Noted}
use Rattle.cs_world.specs.declared.call.Call.TheVariants as calls
use Rattle.cs_world.proofs.Calls.{answers_had}

-- any node hears what comes
pub hears : (node : Node) (bytes : Bor (List ℕ)) → refused node (calls.Deliver bytes) ≡ None
hears (nodes.Follower f) bytes = go f.following
  where
    go : (following : Option Membership) → refused_by_follower following (calls.Deliver bytes) ≡ None
    go None = refl
    go (Some m) = refl
hears (nodes.Leader leader) bytes = refl
hears nodes.Left bytes = refl

-- how a call ended that left these
abbrev ends_at : Parts → Ends
ends_at now = record { status = status_after now.node; link = now.link; log = now.log }

-- it left the node that runs then
left-there : (o : Option Node) → o ≡ running (status_after o)
left-there None = refl
left-there (Some node) = refl

-- a node that was there took the bytes
pub took-bytes : (before now : Parts) (bytes : Bor (List ℕ)) (note : Note) (answered : Answer)
    → ((node : Node) → before.node ≡ Some node → Acts node (on_bytes node bytes.now) before.link before.log note (ends_at now))
    → (before.node ≡ None → ⊥) → IfSome now.log.bytes (λ text. now.log.synced ≤ length text)
    → answered ≡ unless_torn (armed_number before.log.tear) (armed_number now.log.tear) (Noted note)
    → DoesCall before (calls.Deliver bytes) answered now
took-bytes before now bytes note answered acts there within says = go before.node refl
  where
    go : (o : Option Node) → before.node ≡ o → CallsAs o before (calls.Deliver bytes) answered now
    go None gone = absurd (there gone)
    go (Some node) is = record {
      ends = ends_at now;
      said = Noted note;
      called = answers_had node (record { status = Ok node; link = before.link; log = before.log }) (ends_at now) (ends_at now)
          (calls.Deliver bytes) (calls.Deliver bytes) (Noted note) note refl (hears node bytes) refl refl (acts node is) within;
      answer = says;
      parts = ap (λ (o : Option Node). record now { node = o }) (left-there now.node);
    }
