-- nothing stands for a node that wasn't started
use Rattle.cs_log.specs.contracts.arming.ArmingLog.TheImpl as arming_log
use Rattle.cs_world.specs.contracts.tap.TapLink.TheImpl as tap_link
use Rattle.cs_world.proofs.AloneSingle.{nobody-there}
use Rattle.cs_world.proofs.single.Single.new.Goals as goal

pub returns-clause-alone : goal.returns-clause-alone
returns-clause-alone g c =
    let link = tap_link.ghosts g.row.D-Wire g.D.Wire.Link g.D.Wire.Link-dict in
    let log = arming_log.ghosts g.row.D-Store g.D.Store.Log g.D.Store.Log-dict in
    nobody-there link log c.new.result c.new.ensures.items c.new.ensures.datagrams c.new.ensures.bytes
