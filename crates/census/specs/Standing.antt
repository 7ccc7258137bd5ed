-- What the system in the code stands for.
use Rattle.cs_link.specs.declared.link.Link.{Ghosts as LinkGhosts}
use Rattle.cs_log.specs.declared.arming.Arming.{Arming}
use Rattle.cs_log.specs.declared.log.Log.{Ghosts as LogGhosts}
use Rattle.cs_world.specs.AloneStands.{IsAlone}
use Rattle.cs_world.specs.Stands.{IsLimitAt, Stands}
use Rattle.cs_world.specs.declared.fault.WorldFault.{WorldFault}
use Rattle.cs_world.specs.declared.nodes.Nodes.{Nodes}
use Rattle.cs_world.specs.declared.tap.Tap.{Tap}
use Rattle.census.specs.Systems.{Many, One, System, sent_in}
use Rattle.census.specs.declared.system.System.{System as Code}
use Rattle.census.specs.declared.system.System.TheVariants as code

-- a world of the code stands for a world of the machine, and its one node for a node alone
abbrev pub StandsFor : {D W S : Type 0} {wire : LinkGhosts W} → LinkGhosts (Tap W wire) → LogGhosts (Arming S)
    → Code D W S wire → System → Type 0
StandsFor link log (code.World world) (Many m) = Stands link log world.nodes m
StandsFor link log (code.World world) (One alone) = ⊥
StandsFor link log (code.Single single) (Many m) = ⊥
StandsFor link log (code.Single single) (One alone) = IsAlone link log single.home single.nodes alone

-- the nodes that the code has
abbrev pub nodes_in : {D W S : Type 0} {wire : LinkGhosts W} → Code D W S wire → Nodes (Tap W wire) (Arming S)
nodes_in (code.World world) = world.nodes
nodes_in (code.Single single) = single.nodes

-- where a fault is a limit, the system would send more with the event than a run may send
abbrev pub IsLimitIn : System → WorldFault → Type 0
IsLimitIn system = IsLimitAt (sent_in system)
