-- the node is called to close, where it is up
use Rattle.std.proofs.Common.{codes, refl, sym, subst}
use Rattle.cs_log.specs.contracts.arming.ArmingLog.TheImpl as arming_log
use Rattle.cs_world.specs.AloneEvents.{says}
use Rattle.cs_world.specs.AloneStands.{AnswersSingle}
use Rattle.cs_world.specs.contracts.tap.TapLink.TheImpl as tap_link
use Rattle.cs_world.proofs.AloneSingle.{answers-says, closes-none}
use Rattle.cs_world.proofs.single.Single.close.Goals as goal

pub returns-in_default-clause-answers : goal.returns-in_default-clause-answers
returns-in_default-clause-answers g c = λ alone is.
    let link = tap_link.ghosts g.row.D-Wire g.D.Wire.Link g.D.Wire.Link-dict in
    let log = arming_log.ghosts g.row.D-Store g.D.Store.Log g.D.Store.Log-dict in
    let code = c.args.self.now.nodes in
    let home = c.args.self.now.home in
    subst (λ a. AnswersSingle link log home code a c.line.result)
    (sym (closes-none link log code alone is.nodes (c.first.ensures.none c.in_default.is)))
    (answers-says link log code code home home alone is c.line.result (says alone (codes "no leader")) (codes "no leader") refl is.home
    is.nodes (c.line.ensures.text, c.line.ensures.memory))
