-- the node is started under its leader, or nobody said who that is
use Rattle.std.proofs.Common.{◌≡◌, ◌==◌, cond, codes, refl, sym, ap, subst, ◌∙◌}
use Rattle.cs_log.specs.contracts.arming.ArmingLog.TheImpl as arming_log
use Rattle.cs_packet.specs.BootField.{IsLedBy}
use Rattle.cs_packet.specs.declared.own.Own.{Own}
use Rattle.cs_world.specs.AloneEvents.{boots, boots_under, own_of, says, starts}
use Rattle.cs_world.specs.AloneStands.{AnswersSingle}
use Rattle.cs_world.specs.contracts.tap.TapLink.TheImpl as tap_link
use Rattle.cs_world.proofs.AloneSingle.{answers-says, answers-starts, led-by, none-started}
use Rattle.cs_world.proofs.single.Single.boot.Goals as goal

pub returns-in_default-clause-answers : goal.returns-in_default-clause-answers
returns-in_default-clause-answers g c = λ alone is.
    let link = tap_link.ghosts g.row.D-Wire g.D.Wire.Link g.D.Wire.Link-dict in
    let log = arming_log.ghosts g.row.D-Store g.D.Store.Log g.D.Store.Log-dict in
    let code = c.args.self.now.nodes in
    let home = c.args.self.now.home in
    let none = none-started link log code alone is.nodes (c.is_started.ensures.none c.if-is_started.false) in
    let untold = ap (boots alone c.args.me c.args.mode) none ∙ ap (boots_under alone c.args.me c.args.mode) (sym is.home ∙ c.in_default.is) in
    subst (λ a. AnswersSingle link log home code a c.line-in_default.result) (sym untold)
    (answers-says link log code code home home alone is c.line-in_default.result (says alone (codes "no leader")) (codes "no leader") refl is.home
    is.nodes (c.line-in_default.ensures.text, c.line-in_default.ensures.memory))

pub returns-clause-answers : goal.returns-clause-answers
returns-clause-answers g c = λ alone is.
    let link = tap_link.ghosts g.row.D-Wire g.D.Wire.Link g.D.Wire.Link-dict in
    let log = arming_log.ghosts g.row.D-Store g.D.Store.Log g.D.Store.Log-dict in
    let code = c.args.self.now.nodes in
    let later = c.start.new.nodes in
    let me = c.args.me in
    let mode = c.args.mode in
    let home = c.args.self.now.home in
    let leader = c.in-Some.home in
    let own : Own = c.own_of.result in
    let wanted : Own = own_of leader me mode in
    let same : own ≡ wanted = c.own_of.ensures in
    let other = sym c.eq.ensures ∙ c.if-eq.false in
    let led : IsLedBy (own.id == own.leader) own =
    subst (λ (o : Own). IsLedBy (o.id == o.leader) o) (sym same) (led-by leader me mode other) in
    let none = none-started link log code alone is.nodes (c.is_started.ensures.none c.if-is_started.false) in
    let leads = ap (boots alone me mode) none ∙ ap (boots_under alone me mode) (sym is.home ∙ c.in-Some.is)
    ∙ ap (λ b. cond b (says alone (codes "taken")) (starts alone wanted)) other in
    subst (λ a. AnswersSingle link log home later a c.start.result) (sym leads)
    (subst (λ o. AnswersSingle link log home later (starts alone o) c.start.result) same
    (answers-starts link log code later home home alone is c.start.result own none refl (c.start.ensures.formed led) c.start.ensures.traffic
    c.start.ensures.text c.start.ensures.unlimited (c.start.ensures.nodes led)))
