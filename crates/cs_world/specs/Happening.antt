-- What an action on the node under an id leads to in the machine.
use Rattle.std.specs.Prelude.{◌≡◌, ⊤, ℕ, codes, Option, Some, None, IfSome, IsSome}
use Rattle.cs_machine.specs.Contents.{contents_of}
use Rattle.cs_machine.specs.Happens.{crash_at, restart_at, tear_at}
use Rattle.cs_machine.specs.Names.{Node, State, World, node_of}
use Rattle.cs_machine.specs.Outcome.{After, answer, commit}
use Rattle.cs_machine.specs.Reached.{IsReached}
use Rattle.cs_machine.specs.Squares.{IsStep}
use Rattle.cs_machine.specs.Step.{Step}
use Rattle.cs_machine.specs.Values.{node_for}
use Rattle.cs_world.specs.Calls.{effects_at, refusal_word, refused}
use Rattle.cs_world.specs.Processes.{Parts}
use Rattle.cs_world.specs.declared.action.Action.{Action}
use Rattle.cs_world.specs.declared.action.Action.TheVariants as actions
use Rattle.cs_world.specs.declared.call.Call.{Call}
use Rattle.cs_world.specs.declared.call.Refusal.{Refusal}

-- a node in a state refuses the call, or takes a step, for which what it decides stands
abbrev pub RefusesOrSteps : World → Node → State → Call → After → Option Refusal → Type 0
RefusesOrSteps world node state call after (Some refusal) = after ≡ answer world (refusal_word refusal)
RefusesOrSteps world node state call after None = (step : Step) × (after ≡ commit world node step)
    × IsStep world node state step (effects_at (node_for (contents_of world) node.own state) call)

-- one that is down says so
abbrev pub CalledAs : World → Node → Call → After → Option State → Type 0
CalledAs world node call after None = after ≡ answer world (codes "down")
CalledAs world node call after (Some state) =
    RefusesOrSteps world node state call after (refused (node_for (contents_of world) node.own state) call)

-- a call where there is no node, or one that does so
abbrev pub CalledIf : World → Call → After → Option Node → Type 0
CalledIf world call after None = after ≡ answer world (codes "no node")
CalledIf world call after (Some node) = CalledAs world node call after node.state

-- any action there
abbrev pub LeadsTo : World → Action → After → Option Node → Type 0
LeadsTo world (actions.Call call) after there = CalledIf world call after there
LeadsTo world actions.Crash after there = after ≡ crash_at world there
LeadsTo world actions.Restart after there = after ≡ restart_at world there
LeadsTo world (actions.Arm b) after there = after ≡ tear_at world b there

-- what an action on the node under the id leads to: a world that is reached
abbrev pub IsActed : World → ℕ → Action → After → Type 0
IsActed world id action after = LeadsTo world action after (node_of world id) × IsReached after.world

-- the node under the id is called
abbrev pub IsCalled : World → ℕ → Call → After → Type 0
IsCalled world id call after = IsActed world id (actions.Call call) after

-- a node that is to come back has a log that tells its bytes
abbrev pub CanBeTold : Action → Option Parts → Type 0
CanBeTold actions.Restart parts = IfSome parts (λ p. IsSome p.log.bytes)
CanBeTold action parts = ⊤
