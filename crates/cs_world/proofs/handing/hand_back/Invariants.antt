-- the seats that are still there are the first ones, and those behind them were handed back
use Rattle.std.proofs.Common.{map, length}
use Rattle.cs_link.specs.declared.link.Link.{Ghosts as LinkGhosts}
use Rattle.cs_log.specs.declared.arming.Arming.{Arming}
use Rattle.cs_log.specs.declared.log.Log.{Ghosts as LogGhosts}
use Rattle.cs_log.specs.contracts.arming.ArmingLog.TheImpl as arming
use Rattle.cs_world.specs.Seats.{seated, seats_of}
use Rattle.cs_world.specs.declared.tap.Tap.{Tap}
use Rattle.cs_world.specs.contracts.tap.TapLink.TheImpl as tap
use Rattle.cs_world.proofs.HandingBack.{IsHanding}
use Rattle.cs_world.specs.Desk.{desk_told}
use Rattle.cs_world.proofs.handing.hand_back.Given as goal

-- what the links tell
abbrev pub of_link : (g : goal.Over) → LinkGhosts (Tap g.row.D-Wire.Denot g.D.Wire.Link)
of_link g = tap.ghosts g.row.D-Wire g.D.Wire.Link g.D.Wire.Link-dict

-- what the logs tell
abbrev pub of_log : (g : goal.Over) → LogGhosts (Arming g.row.D-Store.Denot)
of_log g = arming.ghosts g.row.D-Store g.D.Store.Log g.D.Store.Log-dict

abbrev pub invariant-loop-id : goal.invariant-loop-id
invariant-loop-id g l =
    IsHanding (seats_of (of_link g) (of_log g) l.fn.seats) (map (seated (of_link g) (of_log g)) l.items.items) (g.D.Ground.out l.desk)
    (desk_told g.D.Ground l.fn.desk) (desk_told g.D.Ground l.desk)

abbrev pub decreases-loop-id : goal.decreases-loop-id
decreases-loop-id g l = length l.items.items
