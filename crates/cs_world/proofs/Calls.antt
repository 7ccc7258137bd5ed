-- How a call that a node has ends, and what each kind of node refuses.
use Rattle.std.proofs.Common.{◌≡◌, ◌≤◌, ℕ, Bool, refl, ap, subst, sym, inl, List, [], length, Option, None, Some, IfSome, IsSome}
use Rattle.std.proofs.Common.{Result, Ok, append-nil}
use Rattle.std.proofs.lemmas.Bool.{false≢true}
use Rattle.std.specs.Option.{option_map_or}
use Rattle.std.specs.Result.{IsErr}
use Rattle.cs_core.specs.Node.{Following as Membership}
use Rattle.cs_core.specs.declared.plan.Call.{Call as OwnCall}
use Rattle.cs_core.specs.declared.plan.Call.TheVariants as own_calls
use Rattle.cs_link.specs.Sent.{Datagram}
use Rattle.cs_lead.specs.Leading.{Leading as Leader}
use Rattle.cs_node.specs.Calls.{Acts, Ends, GivesAgain}
use Rattle.cs_node.specs.Effects.{on_call}
use Rattle.cs_node.specs.Posting.{all_posted}
use Rattle.cs_node.specs.States.{IsFollowerThat}
use Rattle.cs_node.specs.Told.{LinkTold}
use Rattle.cs_node.specs.declared.effects.Effects.{Effects}
use Rattle.cs_node.specs.declared.node.Node.{Node}
use Rattle.cs_node.specs.declared.node.Node.TheVariants as nodes
use Rattle.cs_node.specs.declared.note.Note.{Note}
use Rattle.cs_node.specs.declared.note.Note.TheVariants as notes
use Rattle.cs_node.specs.declared.stopped.Why.{Why}
use Rattle.cs_world.proofs.AllLeft.{at_all}
use Rattle.cs_world.specs.Calls.{AnswersAs, CallsOn, EndsWell, HasCalled, asking, effects_at, left_answer, refused, refused_by_follower}
use Rattle.cs_world.specs.Calls.{refused_by_joining, refused_by_leader, refused_by_left, refused_by_member}
use Rattle.cs_world.specs.declared.call.Answer.{Answer}
use Rattle.cs_world.specs.declared.call.Answer.TheVariants.{Noted}
use Rattle.cs_world.specs.declared.call.Call.{Call}
use Rattle.cs_world.specs.declared.call.Call.TheVariants as calls

-- a call that keeps to what every call does ends well, where no more of the log is synced than there is
ends_well : (node : Node) (effects : Effects) (before now : Ends) (note : Note) → Acts node effects before.link before.log note now
    → IfSome now.log.bytes (λ bytes. now.log.synced ≤ length bytes) → EndsWell node effects before note now
ends_well node effects before now note acts within = record {
  ended = acts.ended;
  again = λ failed. at_all now.log.bytes now.log.synced (GivesAgain node effects before.log.bytes now.status) within acts.comes_back;
  sound = acts.sound;
}

-- a node that has the call answers its note, and ends as the call does
pub answers_had : (node : Node) (before ended now : Ends) (call made : Call) (answer : Answer) (note : Note)
    → made ≡ call → refused node call ≡ None → answer ≡ Noted note → now ≡ ended
    → Acts node (effects_at node call) before.link before.log note ended
    → IfSome ended.log.bytes (λ bytes. ended.log.synced ≤ length bytes)
    → AnswersAs (refused node made) node before made answer now
answers_had node before ended now call made answer note is_made had says is_now acts within =
    let ends = ends_well node (effects_at node call) before ended note acts within in
    rw is_made (rw (had, is_now) (note, says, ends))

-- a node that is told to ask, and can, does so
pub answers_asked : (node : Node) (before ended now : Ends) (to : ℕ) (leads : Bool) (asks : OwnCall) (made : Call) (answer : Answer) (note : Note)
    → made ≡ calls.Ask to leads → refused node (calls.Ask to leads) ≡ None → asking node to ≡ asks → answer ≡ Noted note → now ≡ ended
    → Acts node (on_call node asks) before.link before.log note ended
    → IfSome ended.log.bytes (λ bytes. ended.log.synced ≤ length bytes)
    → AnswersAs (refused node made) node before made answer now
answers_asked node before ended now to leads asks made answer note is_made had is says is_now acts within =
    answers_had node before ended now (calls.Ask to leads) made answer note is_made had says is_now
    (subst (λ (call : OwnCall). Acts node (on_call node call) before.link before.log note ended) (sym is) acts) within

-- a joining node asks its leader
pub asking_without_view : (node : Node) (to : ℕ) → IsFollowerThat (λ f. f.following ≡ None) node → asking node to ≡ own_calls.AskLeader
asking_without_view node to (f, is, none) = rw (is, none)

-- one that has a view asks whom it is told to
asking_if_some : (following : Option Membership) (to : ℕ) → IsSome following
    → option_map_or (λ (m : Membership). own_calls.Ask to) following own_calls.AskLeader ≡ own_calls.Ask to
asking_if_some None to some = absurd (cc)
asking_if_some (Some m) to some = refl

-- so a member does
pub asking_with_view : (node : Node) (to : ℕ) → IsFollowerThat (λ f. IsSome f.following) node → asking node to ≡ own_calls.Ask to
asking_with_view node to (f, is, some) = rw is (asking_if_some f.following to some)

-- a joining node refuses what it can't do without a view
pub refused_without_view : (node : Node) (call : Call) → IsFollowerThat (λ f. f.following ≡ None) node
    → refused node call ≡ refused_by_joining call
refused_without_view node call (f, is, none) = rw (is, none)

-- with a view a node refuses what a member does
refused_if_some : (following : Option Membership) (call : Call) → IsSome following
    → refused_by_follower following call ≡ refused_by_member call
refused_if_some None call some = absurd (cc)
refused_if_some (Some m) call some = refl

-- a member refuses what it can't do with a view
pub refused_with_view : (node : Node) (call : Call) → IsFollowerThat (λ f. IsSome f.following) node
    → refused node call ≡ refused_by_member call
refused_with_view node call (f, is, some) = rw is (refused_if_some f.following call some)

-- the leader refuses what only others do
pub refused_leading : (node : Node) (call : Call) → (leader : Leader) × (node ≡ nodes.Leader leader)
    → refused node call ≡ refused_by_leader call
refused_leading node call (leader, is) = rw is

-- no datagram behind those that were sent: they stay as they are
none_posted : (sent : Option (List Datagram)) → sent ≡ all_posted [] sent
none_posted None = refl
none_posted (Some sent) = simp append-nil

-- so the link is as before
none_sent : (link : LinkTold) → link ≡ record link { sent = all_posted [] link.sent }
none_sent link = ap (λ (sent : Option (List Datagram)). record link { sent = sent }) (none_posted link.sent)

-- a node that left is as before, whatever it answers
left_answers : (before : Ends) (call : Call) → before.status ≡ Ok nodes.Left
    → AnswersAs (refused_by_left call) nodes.Left before call (left_answer call) before
left_answers before calls.Join status = (refl, refl)
left_answers before calls.Leave status = (refl, refl)
left_answers before calls.Flush status = (refl, refl)
left_answers before (calls.Move at) status = (refl, refl)
left_answers before calls.Close status = (refl, refl)
left_answers before (calls.Ask to leads) status = (refl, refl)
left_answers before (calls.Need to region) status = (refl, refl)
left_answers before (calls.Deliver bytes) status = (
  notes.Departed,
  refl,
  record {
    ended = inl (refl, (status, refl), none_sent before.link);
    again = λ failed. absurd (false≢true (subst IsErr status failed));
    sound = λ some. record { entry = tt; sends = tt; note = tt; idle = λ idle. absurd idle };
  },
)

-- so it is called
pub calls_on_left : (before : Ends) (call : Call) → before.status ≡ Ok nodes.Left
    → HasCalled before call (left_answer call) before
calls_on_left before call status =
    subst (λ (s : Result Node Why). CallsOn s before call (left_answer call) before) (sym status) (left_answers before call status)
