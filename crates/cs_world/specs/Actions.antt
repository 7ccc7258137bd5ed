-- What an action makes of a process, and what it is answered.
use Rattle.std.specs.Prelude.{◌≡◌, ℕ, Option, Some, None, Ok, IfSome}
use Rattle.cs_log.specs.Tears.{armed_number}
use Rattle.cs_log.specs.declared.armed.Tear.{Tear}
use Rattle.cs_log.specs.declared.armed.Tear.TheVariants.{Append, Nothing}
use Rattle.cs_node.specs.Calls.{Ends}
use Rattle.cs_node.specs.Folding.{FoldsTo}
use Rattle.cs_node.specs.Logged.{HasLogged, restarted}
use Rattle.cs_node.specs.Recovery.{Explains, IsLeft, IsQuiet, LeavesWhole}
use Rattle.cs_node.specs.Told.{LogTold}
use Rattle.cs_node.specs.declared.folding.Folded.TheVariants.{Gives}
use Rattle.cs_node.specs.declared.node.Node.{Node}
use Rattle.cs_world.specs.Calls.{HasCalled}
use Rattle.cs_world.specs.Processes.{Parts, parts_of}
use Rattle.cs_world.specs.declared.action.Action.{Action}
use Rattle.cs_world.specs.declared.action.Action.TheVariants as actions
use Rattle.cs_world.specs.declared.call.Answer.{Answer}
use Rattle.cs_world.specs.declared.call.Answer.TheVariants.{Armed, Back, Down, Refused, Stopped, Torn}
use Rattle.cs_world.specs.declared.call.Call.{Call}
use Rattle.cs_world.specs.declared.call.Refusal.TheVariants as refusals

-- the answer of a call, but where a number was armed and none is any more: there it tore the write
abbrev pub unless_torn : Option ℕ → Option ℕ → Answer → Answer
unless_torn (Some b) None answer = Torn
unless_torn before now answer = answer

-- a call on a node that is up ends as a call on its state does
pub record EndsCall (node : Node) (before : Parts) (call : Call) (answered : Answer) (now : Parts) : Type 0 where
  pub ends : Ends
  pub said : Answer
  pub called : HasCalled (record { status = Ok node; link = before.link; log = before.log }) call said ends
  pub answer : answered ≡ unless_torn (armed_number before.log.tear) (armed_number ends.log.tear) said
  pub parts : now ≡ parts_of ends

-- one that is down refuses
abbrev pub CallsAs : Option Node → Parts → Call → Answer → Parts → Type 0
CallsAs None before call answered now = (answered ≡ Refused refusals.Down) × (now ≡ before)
CallsAs (Some node) before call answered now = EndsCall node before call answered now

abbrev pub DoesCall : Parts → Call → Answer → Parts → Type 0
DoesCall before call answered now = CallsAs before.node before call answered now

-- a node that was up is down, and its log, where that tells, gives what a restart brings back. One that is down
-- refuses
abbrev pub CrashesAs : Option Node → Parts → Answer → Parts → Type 0
CrashesAs None before answered now = (answered ≡ Refused refusals.Down) × (now ≡ before)
CrashesAs (Some node) before answered now =
    (answered ≡ Down) × (now ≡ record before { node = None })
    × IfSome before.log.bytes (λ bytes. FoldsTo bytes (Gives (restarted node)))

abbrev pub DoesCrash : Parts → Answer → Parts → Type 0
DoesCrash before answered now = CrashesAs before.node before answered now

-- a number that is armed waits for the next append
abbrev pub tear_for : Option ℕ → Tear
tear_for None = Nothing
tear_for (Some b) = Append b

-- so it does in this log
abbrev pub rearmed : LogTold → LogTold
rearmed log = record log { tear = tear_for (armed_number log.tear) }

-- a log brings a node back: where it tells its bytes, these give the node, and it has their whole frames now
pub record BringsBack (before : LogTold) (node : Node) (now : LogTold) : Type 0 where
  pub gives : IfSome before.bytes (λ bytes. FoldsTo bytes (Gives node))
  pub whole : LeavesWhole before.bytes now.bytes
  pub logged : HasLogged now.synced now.bytes node
  pub quiet : IsQuiet before now

-- it does, or there is a reason why it doesn't
abbrev pub Recovers : LogTold → Answer → Option Node → LogTold → Type 0
Recovers before Back (Some node) now = BringsBack before node now
Recovers before (Stopped reason) None now = IfSome before.bytes (Explains reason) × IsLeft reason before now
Recovers before answered _ now = ⊥

-- a node that is down comes back from its log, or stays down. One that is up refuses
abbrev pub RestartsAs : Option Node → Parts → Answer → Parts → Type 0
RestartsAs None before answered now =
    (now.link ≡ before.link) × Recovers (rearmed before.log) answered now.node now.log
RestartsAs (Some node) before answered now = (answered ≡ Refused refusals.Up) × (now ≡ before)

abbrev pub DoesRestart : Parts → Answer → Parts → Type 0
DoesRestart before answered now = RestartsAs before.node before answered now

-- the log is armed, and all else stays
abbrev pub DoesArm : Parts → ℕ → Answer → Parts → Type 0
DoesArm before b answered now =
    (answered ≡ Armed b) × (now ≡ record before { log = record before.log { tear = Append b } })

-- what an action makes of a process, and what it is answered
abbrev pub DoesAction : Parts → Action → Answer → Parts → Type 0
DoesAction before (actions.Call call) answered now = DoesCall before call answered now
DoesAction before actions.Crash answered now = DoesCrash before answered now
DoesAction before actions.Restart answered now = DoesRestart before answered now
DoesAction before (actions.Arm b) answered now = DoesArm before b answered now
