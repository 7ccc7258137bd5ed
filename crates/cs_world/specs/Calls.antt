-- What a node answers to a call, by what it is: a word where it has no such call, else what it decides.
use Rattle.std.specs.Prelude.{◌≡◌, ◌≢◌, ℕ, List, ◌++◌, codes, decimal, Option, None, Some}
use Rattle.std.specs.Prelude.{Result, Ok, Err, IsErr, IfSome, if◌then◌else◌}
use Rattle.std.specs.Option.{option_map_or}
use Rattle.cs_core.specs.Node.{Following as Membership}
use Rattle.cs_core.specs.declared.plan.Call.{Call as OwnCall}
use Rattle.cs_core.specs.declared.plan.Call.TheVariants as own_calls
use Rattle.cs_node.specs.Calls.{Ends, GivesAgain, HasEnded}
use Rattle.cs_node.specs.Effects.{on_bytes, on_call, on_close}
use Rattle.cs_node.specs.Sound.{IsSound}
use Rattle.cs_node.specs.declared.effects.Effects.{Effects}
use Rattle.cs_node.specs.declared.node.Node.{Node}
use Rattle.cs_node.specs.declared.node.Node.TheVariants as nodes
use Rattle.cs_node.specs.declared.note.Note.{Note}
use Rattle.cs_node.specs.declared.note.Note.TheVariants as notes
use Rattle.cs_node.specs.declared.stopped.Why.{Why}
use Rattle.cs_world.specs.declared.call.Answer.{Answer}
use Rattle.cs_world.specs.declared.call.Answer.TheVariants.{Noted, Refused}
use Rattle.cs_world.specs.declared.call.Call.{Call}
use Rattle.cs_world.specs.declared.call.Call.TheVariants as calls
use Rattle.cs_world.specs.declared.call.Refusal.{Refusal}
use Rattle.cs_world.specs.declared.call.Refusal.TheVariants.{Departed, Down, Joining, Leader, Member, NoLeader}
use Rattle.cs_world.specs.declared.call.Refusal.TheVariants.{Unknown, Up}

-- the word of a refusal
abbrev pub refusal_word : Refusal → List ℕ
refusal_word Member = codes "member"
refusal_word Joining = codes "joining"
refusal_word Leader = codes "leader"
refusal_word Departed = codes "departed"
refusal_word NoLeader = codes "no leader"
refusal_word Down = codes "down"
refusal_word Up = codes "up"
refusal_word (Unknown to) = codes "unknown " ++ decimal to

-- a joining node can join and ask the leader, and gets packets
abbrev pub refused_by_joining : Call → Option Refusal
refused_by_joining calls.Join = None
refused_by_joining calls.Leave = Some Joining
refused_by_joining calls.Flush = Some Joining
refused_by_joining (calls.Move at) = Some Joining
refused_by_joining calls.Close = Some NoLeader
refused_by_joining (calls.Ask to leads) = if leads then None else Some (Unknown to)
refused_by_joining (calls.Need to region) = Some Joining
refused_by_joining (calls.Deliver bytes) = None

-- a member can leave, move, ask another, and hand on what is pending
abbrev pub refused_by_member : Call → Option Refusal
refused_by_member calls.Join = Some Member
refused_by_member calls.Leave = None
refused_by_member calls.Flush = None
refused_by_member (calls.Move at) = None
refused_by_member calls.Close = Some NoLeader
refused_by_member (calls.Ask to leads) = None
refused_by_member (calls.Need to region) = None
refused_by_member (calls.Deliver bytes) = None

-- the leader can close its epoch
abbrev pub refused_by_leader : Call → Option Refusal
refused_by_leader calls.Join = Some Member
refused_by_leader calls.Leave = Some Leader
refused_by_leader calls.Flush = Some Leader
refused_by_leader (calls.Move at) = Some Leader
refused_by_leader calls.Close = None
refused_by_leader (calls.Ask to leads) = Some Leader
refused_by_leader (calls.Need to region) = Some Leader
refused_by_leader (calls.Deliver bytes) = None

-- one that left only gets packets
abbrev pub refused_by_left : Call → Option Refusal
refused_by_left calls.Join = Some Departed
refused_by_left calls.Leave = Some Departed
refused_by_left calls.Flush = Some Departed
refused_by_left (calls.Move at) = Some Departed
refused_by_left calls.Close = Some NoLeader
refused_by_left (calls.Ask to leads) = Some Departed
refused_by_left (calls.Need to region) = Some Departed
refused_by_left (calls.Deliver bytes) = None

-- with a view or without one
abbrev pub refused_by_follower : Option Membership → Call → Option Refusal
refused_by_follower None call = refused_by_joining call
refused_by_follower (Some m) call = refused_by_member call

-- whether a node has the call, or why it hasn't
abbrev pub refused : Node → Call → Option Refusal
refused (nodes.Follower f) call = refused_by_follower f.following call
refused (nodes.Leader leader) call = refused_by_leader call
refused nodes.Left call = refused_by_left call

-- a joining node asks its leader, and a member whom it is told to
abbrev pub asking : Node → ℕ → OwnCall
asking (nodes.Follower f) to = option_map_or (λ (m : Membership). own_calls.Ask to) f.following own_calls.AskLeader
asking node to = own_calls.Ask to

-- what a node that has the call decides
abbrev pub effects_at : Node → Call → Effects
effects_at node calls.Join = on_call node own_calls.Join
effects_at node calls.Leave = on_call node own_calls.Leave
effects_at node calls.Flush = on_call node own_calls.Flush
effects_at node (calls.Move at) = on_call node (own_calls.Moved at)
effects_at node calls.Close = on_close node
effects_at node (calls.Ask to leads) = on_call node (asking node to)
effects_at node (calls.Need to region) = on_call node (own_calls.Need to region)
effects_at node (calls.Deliver bytes) = on_bytes node bytes.now

-- what one that left answers
abbrev pub answer_unless : Note → Option Refusal → Answer
answer_unless note None = Noted note
answer_unless note (Some refusal) = Refused refusal

abbrev pub left_answer : Call → Answer
left_answer call = answer_unless notes.Departed (refused_by_left call)

-- a call that ended as one may. Where the node stopped at it, its log, where that tells, gives a node again; unless
-- memory was wanting, what was decided is well formed
pub record EndsWell (node : Node) (effects : Effects) (before : Ends) (note : Note) (now : Ends) : Type 0 where
  pub ended : HasEnded node effects before.link before.log note now
  pub again : IsErr now.status → IfSome now.log.bytes (GivesAgain node effects before.log.bytes now.status)
  pub sound : note ≢ notes.Memory → IsSound effects

-- a node with its link and its log, and afterwards: it refused, or a call ended
abbrev pub AnswersAs : Option Refusal → Node → Ends → Call → Answer → Ends → Type 0
AnswersAs (Some refusal) node before call answer now = (answer ≡ Refused refusal) × (now ≡ before)
AnswersAs None node before call answer now =
    (note : Note) × (answer ≡ Noted note) × EndsWell node (effects_at node call) before note now

-- a node that runs, or one that stopped
abbrev pub CallsOn : Result Node Why → Ends → Call → Answer → Ends → Type 0
CallsOn (Ok node) before call answer now = AnswersAs (refused node call) node before call answer now
CallsOn (Err reason) before call answer now = (answer ≡ Refused Down) × (now ≡ before)

-- what a call makes of a state, and what it answers
abbrev pub HasCalled : Ends → Call → Answer → Ends → Type 0
HasCalled before call answer now = CallsOn before.status before call answer now
