-- Which events are actions on a node.
use Rattle.std.specs.Prelude.{ℕ, Option, Some, None}
use Rattle.cs_script.specs.declared.event.Event.{Event}
use Rattle.cs_script.specs.declared.event.Event.TheVariants as events
use Rattle.cs_world.specs.declared.action.Action.{Action}
use Rattle.cs_world.specs.declared.action.Action.TheVariants as actions
use Rattle.cs_world.specs.declared.call.Call.TheVariants as calls

-- the node on which an event acts, and the action, where it is one that needs no more to be known than the event
abbrev pub action_for : Event → Option (ℕ × Action)
action_for (events.Join id) = Some (id, actions.Call calls.Join)
action_for (events.Leave id) = Some (id, actions.Call calls.Leave)
action_for (events.Flush id) = Some (id, actions.Call calls.Flush)
action_for (events.Move id at) = Some (id, actions.Call (calls.Move at))
action_for (events.Need id to region) = Some (id, actions.Call (calls.Need to region))
action_for (events.Crash id) = Some (id, actions.Crash)
action_for (events.Restart id) = Some (id, actions.Restart)
action_for (events.Tear id b) = Some (id, actions.Arm b)
action_for event = None
