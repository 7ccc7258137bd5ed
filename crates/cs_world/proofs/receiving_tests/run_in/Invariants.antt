-- the desk has out what the world was granted
use Rattle.cs_world.specs.contracts.receiving_tests.FedGroundGround.TheImpl as fed
use Rattle.cs_world.specs.Seats.{AreOut}
use Rattle.cs_world.proofs.receiving_tests.run_in.Given as goal

abbrev pub invariant-loop-row : goal.invariant-loop-row
invariant-loop-row g l = AreOut (fed.ghosts.out l.desk) l.world.nodes.seats
