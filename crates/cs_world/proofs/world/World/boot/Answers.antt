-- the node is started under the leader
use Rattle.std.proofs.Common.{[], sym, ◌∙◌}
use Rattle.std.specs.String.{string_bytes}
use Rattle.cs_log.specs.contracts.arming.ArmingLog.TheImpl as arming_log
use Rattle.cs_script.specs.declared.event.Event.TheVariants as events
use Rattle.cs_machine.specs.Happens.{happens}
use Rattle.cs_world.specs.Stands.{Tells}
use Rattle.cs_world.specs.contracts.tap.TapLink.TheImpl as tap_link
use Rattle.cs_world.proofs.Boots.{booted-led, boots-tells, differs}
use Rattle.cs_world.proofs.Results.{unlimited, with-both}
use Rattle.cs_world.proofs.world.World.boot.Goals as goal

pub start-requires-clause-unused : goal.start-requires-clause-unused
start-requires-clause-unused g c = c.is_used.ensures.unused c.if-is_used.false

pub returns-clause-answers : goal.returns-clause-answers
returns-clause-answers g c = λ world stands.
    let link = tap_link.ghosts g.row.D-Wire g.D.Wire.Link g.D.Wire.Link-dict in
    let log = arming_log.ghosts g.row.D-Store g.D.Store.Log g.D.Store.Log-dict in
    let code = c.args.self.now.nodes in
    let later = c.start.new.nodes in
    let id = c.args.id in
    let unused = sym (c.is_used.ensures.used world stands) ∙ c.if-is_used.false in
    let after = happens world (events.Boot id c.args.addr c.args.at c.args.mode) in
    let led = booted-led c.in-Some.leader id c.args.addr c.args.at c.args.mode
    (differs link log code world id c.args.addr stands unused c.in-Some.leader c.in-Some.is) in (
      with-both c.start.result _ _ _ (λ text. Tells link log later [] (string_bytes text) after)
          (c.start.ensures.nodes led) c.start.ensures.addresses c.start.ensures.text
          (λ nodes addresses text told.
          boots-tells link log code later world id c.args.addr c.args.at c.args.mode c.in-Some.leader nodes.0 stands c.requires.allowed unused
          c.in-Some.is nodes.1 nodes.2 addresses c.start.ensures.leader c.start.ensures.traffic [] (string_bytes text) told),
      unlimited after.world c.start.result c.start.ensures.unlimited,
    )
