-- the packets and their bytes
use Rattle.std.proofs.Common.{◌∙◌}
use Rattle.cs_world.proofs.Beginning.{sent-count}
use Rattle.cs_world.proofs.world.World.sent.Goals as goal

pub returns : goal.returns
returns g c = λ world stands.
    let count = c.len.ensures.count ∙ sent-count c.args.self.now.nodes.traffic world stands.traffic in
    let bytes = stands.traffic.bytes in
    cc
