-- the desk has out what the world was granted
use Rattle.cs_link.specs.contracts.mem_desk.MemDeskGround.TheImpl as mem_desk
use Rattle.cs_world.specs.Seats.{AreOut}
use Rattle.cs_world.proofs.tests.check_run.Given as goal

abbrev pub invariant-loop-line : goal.invariant-loop-line
invariant-loop-line g l = AreOut (mem_desk.ghosts.out l.desk) l.world.nodes.seats
