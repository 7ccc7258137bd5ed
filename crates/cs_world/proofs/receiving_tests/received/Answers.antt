use Rattle.cs_world.specs.contracts.receiving_tests.FedGroundGround.TheImpl as fed
use Rattle.cs_world.proofs.Starting.{out-ids}
use Rattle.cs_world.proofs.receiving_tests.received.Goals as goal
use Rattle.std.proofs.Common.{refl}

-- who is there stays
pub returns : goal.returns
returns g c =
    let out = fed.ghosts.out c.args.desk.now in
    out-ids out out c.args.world.now.nodes.seats c.receive.new.self.nodes.seats refl c.receive.ensures.received.seats.ids c.requires
