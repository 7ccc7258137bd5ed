-- Each allowed event leads from a reached world to a reached one that comes from it.
use Rattle.std.proofs.Common.{codes, refl}
use Rattle.cs_machine.specs.Asking.{need_step}
use Rattle.cs_machine.specs.Changes.{flush_step, leave_step, move_step}
use Rattle.cs_machine.specs.Delivering.{sent_at}
use Rattle.cs_machine.specs.Happens.{happens, is_used, led}
use Rattle.cs_machine.specs.Names.{World, leader_of, node_of}
use Rattle.cs_machine.specs.Reached.{IsReached}
use Rattle.cs_machine.proofs.Reached.{ask_at-keeps, boot_in-keeps, crash_at-keeps, join_at-keeps, led-keeps, member_at-keeps, noise_at-keeps}
use Rattle.cs_machine.proofs.Reached.{print_at-keeps, restart_at-keeps, tear_at-keeps, unless-used}
use Rattle.cs_machine.proofs.ReachedAsks.{IsQuiet-need}
use Rattle.cs_machine.proofs.ReachedClose.{close_at-keeps}
use Rattle.cs_machine.proofs.ReachedChanges.{Reaches, Reaches-same}
use Rattle.cs_machine.proofs.ReachedSteps.{IsQuiet-flush, IsQuiet-leave, IsQuiet-move}
use Rattle.cs_machine.proofs.Rises.{IsLater}
use Rattle.cs_machine.proofs.Settles.{deliver_at-keeps, lost-keeps, rounds-keeps}
use Rattle.cs_script.specs.Event.{IsEvent}
use Rattle.cs_script.specs.declared.event.Event.{Event}
use Rattle.cs_script.specs.declared.event.Event.TheVariants as events

-- event by event, in the order in which they are named
pub happens-keeps : (world : World) (event : Event) → IsEvent event → IsReached world → Reaches world (happens world event).world
happens-keeps world (events.Lead id addr at) allowed reached =
    unless-used world (is_used id addr world) (codes "taken") (led world (leader_of world) id addr at) reached
    (λ unused. led-keeps world (leader_of world) id addr at allowed reached refl)
happens-keeps world (events.Boot id addr at mode) allowed reached = boot_in-keeps world id addr at mode allowed reached
happens-keeps world (events.Home id addr) allowed reached = Reaches-same world reached
happens-keeps world (events.Join id) allowed reached = join_at-keeps world id (node_of world id) reached refl
happens-keeps world (events.Leave id) allowed reached =
    member_at-keeps world leave_step id (node_of world id) (λ node m is found fits. IsQuiet-leave world reached node is m fits) reached refl
happens-keeps world (events.Flush id) allowed reached =
    member_at-keeps world (λ c own m. flush_step own m m.pending) id (node_of world id)
    (λ node m is found fits. IsQuiet-flush world reached node is m fits m.pending fits.pending) reached refl
happens-keeps world (events.Move id at) allowed reached =
    member_at-keeps world (λ c own m. move_step c own at m) id (node_of world id)
    (λ node m is found fits. IsQuiet-move world reached node is m fits at allowed.1) reached refl
happens-keeps world events.Close allowed reached = close_at-keeps world (leader_of world) reached refl
happens-keeps world (events.Ask id to) allowed reached = ask_at-keeps world to id (node_of world id) reached refl
happens-keeps world (events.Need id to region) allowed reached =
    member_at-keeps world (λ c own m. need_step c own to region m) id (node_of world id)
    (λ node m is found fits. IsQuiet-need world reached node is found m fits to region allowed.2) reached refl
happens-keeps world (events.Deliver number) allowed reached = deliver_at-keeps world number reached
happens-keeps world (events.Lose number) allowed reached = lost-keeps world number (sent_at world number) reached refl
happens-keeps world (events.Settle most) allowed reached = rounds-keeps world most reached
happens-keeps world (events.Packet id bytes) allowed reached = Reaches-same world reached
happens-keeps world (events.Noise id size) allowed reached = noise_at-keeps world (node_of world id) reached
happens-keeps world (events.Crash id) allowed reached = crash_at-keeps world id (node_of world id) reached refl
happens-keeps world (events.Restart id) allowed reached = restart_at-keeps world id (node_of world id) reached refl
happens-keeps world (events.Tear id b) allowed reached = tear_at-keeps world id b (node_of world id) reached refl
happens-keeps world (events.Print id) allowed reached = print_at-keeps world (node_of world id) reached

-- no node falls back in it
pub happens-later : (world : World) (event : Event) → IsEvent event → IsReached world → IsLater world (happens world event).world
happens-later world event allowed reached = (let keeps = happens-keeps world event allowed reached in (keeps.follows, keeps.rises))
