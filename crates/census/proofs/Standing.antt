-- What a system of the code stands for, by whether it is a world or one node alone.
use Rattle.std.proofs.Common.{◌≡◌, ℕ, ◌≤◌, List, ◌++◌, Result, Ok, Err, OnOk, subst}
use Rattle.cs_base.specs.Limits.{most_sent}
use Rattle.cs_link.specs.declared.link.Link.{Ghosts as LinkGhosts}
use Rattle.cs_log.specs.declared.arming.Arming.{Arming}
use Rattle.cs_log.specs.declared.log.Log.{Ghosts as LogGhosts}
use Rattle.cs_machine.specs.Names.{World}
use Rattle.cs_machine.specs.Outcome.{After}
use Rattle.cs_show.specs.Text.{text_of}
use Rattle.cs_world.specs.Alone.{Alone}
use Rattle.cs_world.specs.Stands.{Stands, Tells}
use Rattle.cs_world.specs.declared.fault.WorldFault.{WorldFault}
use Rattle.cs_world.specs.declared.nodes.Nodes.{Nodes}
use Rattle.cs_world.specs.declared.single.Single.{Single}
use Rattle.cs_world.specs.declared.tap.Tap.{Tap}
use Rattle.cs_world.specs.declared.world.World.{World as CodeWorld}
use Rattle.census.specs.Standing.{StandsFor}
use Rattle.census.specs.Systems.{Many, One, System, sent_in}
use Rattle.census.specs.declared.system.System.{System as Code}
use Rattle.census.specs.declared.system.System.TheVariants as code

-- a system that the code stands for has sent no more than a run may
pub sent-few : {D W S : Type 0} {wire : LinkGhosts W} (link : LinkGhosts (Tap W wire)) (log : LogGhosts (Arming S)) (system : Code D W S wire)
    (machine : System) → StandsFor link log system machine → sent_in machine ≤ most_sent
sent-few link log (code.World world) (Many m) stands = stands.traffic.few
sent-few link log (code.World world) (One alone) stands = absurd stands
sent-few link log (code.Single single) (Many m) stands = absurd stands
sent-few link log (code.Single single) (One alone) stands =
    subst (λ n. n ≤ most_sent) stands.nodes.traffic.bytes single.nodes.traffic.few

-- a world of the code stands for worlds alone
pub by-world : {D W S : Type 0} {wire : LinkGhosts W} (link : LinkGhosts (Tap W wire)) (log : LogGhosts (Arming S)) (world : CodeWorld D W S wire)
    (Is : System → Type 0) → ((m : World) → StandsFor link log (code.World world) (Many m) → Is (Many m))
    → (machine : System) → StandsFor link log (code.World world) machine → Is machine
by-world link log world Is is (Many m) stands = is m stands
by-world link log world Is is (One alone) stands = absurd stands

-- and its one node for nodes alone
pub by-single : {D W S : Type 0} {wire : LinkGhosts W} (link : LinkGhosts (Tap W wire)) (log : LogGhosts (Arming S)) (single : Single D W S wire)
    (Is : System → Type 0) → ((alone : Alone) → StandsFor link log (code.Single single) (One alone) → Is (One alone))
    → (machine : System) → StandsFor link log (code.Single single) machine → Is machine
by-single link log single Is is (Many m) stands = absurd stands
by-single link log single Is is (One alone) stands = is alone stands

module _ {L G : Type 0} (link : LinkGhosts L) (log : LogGhosts G) (nodes : Nodes L G) (before now : List ℕ) (after : After) where
  -- what a world has told is the text of the event
  pub text-world : (result : Result (Unit {0}) WorldFault) → OnOk result (Tells link log nodes before now after)
      → OnOk result (now ≡ before ++ text_of after.lines)
  text-world (Ok done) tells = tells.text
  text-world (Err fault) tells = tt

  -- and it stands for the next world
  pub stands-world : (result : Result (Unit {0}) WorldFault) → OnOk result (Tells link log nodes before now after)
      → OnOk result (Stands link log nodes after.world)
  stands-world (Ok done) tells = tells.stands
  stands-world (Err fault) tells = tt
