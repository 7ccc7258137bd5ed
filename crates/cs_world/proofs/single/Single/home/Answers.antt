-- who leads is said
use Rattle.std.proofs.Common.{◌≡◌, ◌++◌, ◌∷◌, [], None, Some, IfOk, codes, decimal, refl, sym, ap, subst, ◌∙◌}
use Rattle.std.specs.String.{string_bytes}
use Rattle.cs_log.specs.contracts.arming.ArmingLog.TheImpl as arming_log
use Rattle.cs_show.specs.Text.{ended}
use Rattle.cs_world.specs.AloneEvents.{AfterAlone, at_home}
use Rattle.cs_world.specs.AloneStands.{AnswersSingle}
use Rattle.cs_world.specs.contracts.tap.TapLink.TheImpl as tap_link
use Rattle.cs_world.specs.declared.home.Home.{Home}
use Rattle.cs_world.proofs.AloneSingle.{answers-says, none-started}
use Rattle.cs_world.proofs.Options.{absent_none}
use Rattle.cs_world.proofs.single.Single.home.Goals as goal

pub returns-clause-answers : goal.returns-clause-answers
returns-clause-answers g c = λ alone is.
    let link = tap_link.ghosts g.row.D-Wire g.D.Wire.Link g.D.Wire.Link-dict in
    let log = arming_log.ghosts g.row.D-Store g.D.Store.Log g.D.Store.Log-dict in
    let code = c.args.self.now.nodes in
    let home : Home = record { id = c.args.id; addr = c.args.addr } in
    let line = codes "home " ++ decimal c.args.id in
    let after : AfterAlone = record { alone = record alone { home = Some home }; lines = line ∷ [] } in
    let untold = sym is.home ∙ absent_none c.args.self.now.home (sym c.is_some.ensures ∙ c.if-is_some.false) in
    let none = none-started link log code alone is.nodes (c.is_started.ensures.none c.if-is_started.false) in
    let leads : at_home alone home alone.home alone.node ≡ after =
    ap (λ o. at_home alone home o alone.node) untold ∙ ap (at_home alone home None) none in
    subst (λ a. AnswersSingle link log (Some home) code a c.number_line.result) (sym leads)
    (answers-says link log code code c.args.self.now.home (Some home) alone is c.number_line.result after line refl refl
    (record { nodes = is.nodes.nodes; traffic = is.nodes.traffic }) (
      subst (λ n. IfOk c.number_line.result (λ text. string_bytes text ≡ ended (codes "home " ++ decimal n))) (c.from.ensures ∙ c.get.ensures.value)
          c.number_line.ensures.text,
      c.number_line.ensures.memory,
    ))
