-- the node is called to ask
use Rattle.std.proofs.Common.{◌≡◌, refl, sym, ap, ◌∙◌}
use Rattle.cs_log.specs.contracts.arming.ArmingLog.TheImpl as arming_log
use Rattle.cs_world.specs.AloneEvents.{acts, is_leader}
use Rattle.cs_world.specs.contracts.tap.TapLink.TheImpl as tap_link
use Rattle.cs_world.specs.declared.action.Action.TheVariants as actions
use Rattle.cs_world.specs.declared.call.Call.TheVariants as calls
use Rattle.cs_world.proofs.AloneSingle.{answers-acts, home-leads}
use Rattle.cs_world.proofs.single.Single.ask.Goals as goal

pub returns-clause-answers : goal.returns-clause-answers
returns-clause-answers g c = λ alone is.
    let link = tap_link.ghosts g.row.D-Wire g.D.Wire.Link g.D.Wire.Link-dict in
    let log = arming_log.ghosts g.row.D-Store g.D.Store.Log g.D.Store.Log-dict in
    let to = c.args.to in
    let home = c.args.self.now.home in
    let leads : c.is_home-leads.result ≡ is_leader alone to =
    home-leads home to c.is_home-leads.result c.is_home-leads.ensures ∙ ap (λ h. is_leader (record alone { home = h }) to) is.home in
    let action = actions.Call (calls.Ask to c.is_home-leads.result) in
    answers-acts link log c.args.self.now.nodes c.act.new.self home home alone is c.act.result
    (acts alone c.args.id (actions.Call (calls.Ask to (is_leader alone to))))
    c.args.id action (ap (λ b. acts alone c.args.id (actions.Call (calls.Ask to b))) (sym leads)) refl
    (c.act.ensures.alone refl alone is.nodes tt)
