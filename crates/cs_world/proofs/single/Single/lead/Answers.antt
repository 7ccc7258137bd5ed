-- the node is started as a leader
use Rattle.std.proofs.Common.{◌≡◌, ◌==◌, refl, sym, ap, subst}
use Rattle.cs_base.specs.declared.change.Mode.TheVariants.{Full}
use Rattle.cs_log.specs.contracts.arming.ArmingLog.TheImpl as arming_log
use Rattle.cs_packet.specs.BootField.{IsLedBy}
use Rattle.cs_packet.specs.declared.own.Own.{Own}
use Rattle.cs_world.specs.AloneEvents.{leads, own_of, starts}
use Rattle.cs_world.specs.AloneStands.{AnswersSingle}
use Rattle.cs_world.specs.contracts.tap.TapLink.TheImpl as tap_link
use Rattle.cs_world.proofs.AloneSingle.{answers-starts, leads-itself, none-started}
use Rattle.cs_world.proofs.single.Single.lead.Goals as goal

pub returns-clause-answers : goal.returns-clause-answers
returns-clause-answers g c = λ alone is.
    let link = tap_link.ghosts g.row.D-Wire g.D.Wire.Link g.D.Wire.Link-dict in
    let log = arming_log.ghosts g.row.D-Store g.D.Store.Log g.D.Store.Log-dict in
    let code = c.args.self.now.nodes in
    let later = c.start.new.nodes in
    let me = c.args.me in
    let own : Own = c.own_of.result in
    let wanted : Own = own_of (record { id = me.id; addr = me.addr }) me Full in
    let same : own ≡ wanted = c.own_of.ensures in
    let led : IsLedBy (own.id == own.leader) own = subst (λ (o : Own). IsLedBy (o.id == o.leader) o) (sym same) (leads-itself me) in
    let none = none-started link log code alone is.nodes (c.is_started.ensures.none c.if-is_started.false) in
    let home = c.args.self.now.home in
    subst (λ a. AnswersSingle link log home later a c.start.result) (sym (ap (leads alone me) none))
    (subst (λ o. AnswersSingle link log home later (starts alone o) c.start.result) same
    (answers-starts link log code later home home alone is c.start.result own none refl (c.start.ensures.formed led) c.start.ensures.traffic
    c.start.ensures.text c.start.ensures.unlimited (c.start.ensures.nodes led)))
