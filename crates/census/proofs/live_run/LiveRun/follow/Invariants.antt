use Rattle.std.specs.Prelude.{◌≡◌, ℕ, ◌≤◌, List, drop, Option, IsSome}
use Rattle.cs_link.specs.declared.link.Link.{Ghosts as LinkGhosts}
use Rattle.cs_log.specs.contracts.arming.ArmingLog.TheImpl as arming
use Rattle.cs_log.specs.declared.arming.Arming.{Arming}
use Rattle.cs_log.specs.declared.log.Log.{Ghosts as LogGhosts}
use Rattle.cs_world.specs.Desk.{OnlyGrants, desk_told}
use Rattle.cs_world.specs.Seats.{AreOut, state_at}
use Rattle.cs_world.specs.Stands.{Stands}
use Rattle.cs_world.specs.contracts.tap.TapLink.TheImpl as tap
use Rattle.cs_world.specs.declared.tap.Tap.{Tap}
use Rattle.cs_drill.specs.Plan.{live_plan}
use Rattle.cs_drill.specs.declared.plan.Planned.{Planned}
use Rattle.census.specs.declared.live_run.LiveRun.{LiveRun}
use Rattle.census.specs.Lived.{NodesRose}
use Rattle.census.proofs.LivePlan.{IsOnPlan}
use Rattle.census.proofs.live_run.LiveRun.follow.Given as goal

-- what the links tell
abbrev pub of_link : (g : goal.Over) → LinkGhosts (Tap g.row.F-Wire.Denot g.F.Wire.Link)
of_link g = tap.ghosts g.row.F-Wire g.F.Wire.Link g.F.Wire.Link-dict

-- what the logs tell
abbrev pub of_log : (g : goal.Over) → LogGhosts (Arming g.row.F-Store.Denot)
of_log g = arming.ghosts g.row.F-Store g.F.Store.Log g.F.Store.Log-dict

-- a run of the code
abbrev pub Run : goal.Over → Type 0
Run g = LiveRun g.row.F.Denot g.row.F-Wire.Denot g.row.F-Store.Denot g.F.Ground g.F.Wire.Link g.F.Store.Log

-- how far a run has come that began so
abbrev pub IsOn : (g : goal.Over) → (begun now : Run g) → ℕ → List Planned → Option (List ℕ) → Option (List ℕ) → Type 0
IsOn g begun now port left =
    IsOnPlan (Stands (of_link g) (of_log g) now.world.nodes) (λ id. IsSome (state_at now.world.nodes.seats id))
    (NodesRose (of_link g) (of_log g) begun.world.nodes now.world.nodes) begun.nodes port left now.written

abbrev pub invariant-loop-step : goal.invariant-loop-step
invariant-loop-step g l = record {
  on : IsOn g l.fn.self l.self l.fn.port (drop l.step-index (live_plan l.fn.self.nodes l.fn.port)) (g.K.Sink.written l.fn.sink)
      (g.K.Sink.written l.sink);
  same : l.self.nodes ≡ l.fn.self.nodes;
  counts : g.K.Sink.faults l.fn.sink ≤ g.K.Sink.faults l.sink;
  out : AreOut (g.F.Ground.out l.field) l.self.world.nodes.seats;
  field : OnlyGrants (desk_told g.F.Ground l.fn.field) (desk_told g.F.Ground l.field);
}
