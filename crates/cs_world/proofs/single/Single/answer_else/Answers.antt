-- each event by the call that answers it
use Rattle.std.proofs.Common.{◌≡◌, codes, refl, ap, ◌∙◌}
use Rattle.std.specs.String.{string_bytes}
use Rattle.std.proofs.lemmas.Result.{IfErr-at_err, IfOk-at_ok, err_from_is_err_and}
use Rattle.cs_log.specs.contracts.arming.ArmingLog.TheImpl as arming_log
use Rattle.cs_show.specs.Text.{text_of}
use Rattle.cs_world.specs.Alone.{Alone}
use Rattle.cs_world.specs.AloneEvents.{happens_alone, says}
use Rattle.cs_world.specs.AloneStands.{AnswersSingle, IsAlone}
use Rattle.cs_world.specs.Seats.{AreOut, ids_of}
use Rattle.cs_world.specs.contracts.tap.TapLink.TheImpl as tap_link
use Rattle.cs_world.proofs.AloneSingle.{answers-says, never-alone, single-in}
use Rattle.cs_world.proofs.Starting.{out-ids, out-same-at}
use Rattle.cs_world.proofs.single.Single.answer_else.Given.{Over}
use Rattle.cs_world.proofs.single.Single.answer_else.Goals.{After-branch-text, in-Home, in-Lead, in-Boot, in-Close, in-Ask, in-Packet, in_default}
use Rattle.cs_world.proofs.single.Single.answer_else.Goals as goal

-- what the call answers
told : (g : Over) (c : After-branch-text g) (alone : Alone)
    → IsAlone (tap_link.ghosts g.row.D-Wire g.D.Wire.Link g.D.Wire.Link-dict) (arming_log.ghosts g.row.D-Store g.D.Store.Log g.D.Store.Log-dict)
    c.args.self.now.home c.args.self.now.nodes alone
    → AnswersSingle (tap_link.ghosts g.row.D-Wire g.D.Wire.Link g.D.Wire.Link-dict) (arming_log.ghosts g.row.D-Store g.D.Store.Log g.D.Store.Log-dict)
    c.match-event.self.home c.match-event.self.nodes (happens_alone alone c.args.event.now) c.match-event.branch'
told g c alone is =
    let link = tap_link.ghosts g.row.D-Wire g.D.Wire.Link g.D.Wire.Link-dict in
    let log = arming_log.ghosts g.row.D-Store g.D.Store.Log g.D.Store.Log-dict in
    let code = c.args.self.now.nodes in
    let home = c.args.self.now.home in
    elim c.match-event.branch [
      | in-Home w ↦ single-in link log _ _ _ _ _ _ _ _ (ap (λ s. s.home) w.self-is) (ap (λ s. s.nodes) w.self-is) w.branch'-is
          (ap (happens_alone alone) w.in-Home.is) (w.home.ensures.answers alone is)
      | in-Lead w ↦ single-in link log _ _ _ _ _ _ _ _ (ap (λ s. s.home) w.self-is) (ap (λ s. s.nodes) w.self-is) w.branch'-is
          (ap (happens_alone alone) w.in-Lead.is) (w.lead.ensures.answers alone is)
      | in-Boot w ↦ single-in link log _ _ _ _ _ _ _ _ (ap (λ s. s.home) w.self-is) (ap (λ s. s.nodes) w.self-is) w.branch'-is
          (ap (happens_alone alone) w.in-Boot.is) (w.boot.ensures.answers alone is)
      | in-Close w ↦ single-in link log _ _ _ _ _ _ _ _ (ap (λ s. s.home) w.self-is) (ap (λ s. s.nodes) w.self-is) w.branch'-is
          (ap (happens_alone alone) w.in-Close.is) (w.close.ensures.answers alone is)
      | in-Ask w ↦ single-in link log _ _ _ _ _ _ _ _ (ap (λ s. s.home) w.self-is) (ap (λ s. s.nodes) w.self-is) w.branch'-is
          (ap (happens_alone alone) w.in-Ask.is) (w.ask.ensures.answers alone is)
      | in-Packet w ↦ single-in link log _ _ _ _ _ _ _ _ (ap (λ s. s.home) w.self-is) (ap (λ s. s.nodes) w.self-is) w.branch'-is
          (ap (happens_alone alone) w.in-Packet.is) (w.receive.ensures.answers alone is)
      | in_default w ↦ single-in link log _ _ _ _ _ _ _ _ (ap (λ s. s.home) w.self-is) (ap (λ s. s.nodes) w.self-is) w.branch'-is
          (never-alone alone c.args.event.now c.requires.none w.in_default.not-Home w.in_default.not-Lead w.in_default.not-Boot
          w.in_default.not-Close w.in_default.not-Ask w.in_default.not-Packet w.in_default.not-Print)
          (answers-says link log code code home home alone is w.line.result (says alone (codes "not here")) (codes "not here") refl is.home is.nodes
          (w.line.ensures.text, w.line.ensures.memory))
    ]

-- and what is out after it
out : (g : Over) (c : After-branch-text g) → AreOut (g.D.Ground.out c.match-event.desk) c.match-event.self.nodes.seats
out g c =
    elim c.match-event.branch [
      | in-Home w ↦ out-same-at _ _ _ _ (ap g.D.Ground.out w.desk-is)
          (ap (λ s. s.nodes.seats) w.self-is ∙ ap (λ n. n.seats) w.home.ensures.nodes) c.requires.out
      | in-Lead w ↦ out-same-at _ _ _ _ (ap g.D.Ground.out w.desk-is) (ap (λ s. s.nodes.seats) w.self-is) w.lead.ensures.out
      | in-Boot w ↦ out-same-at _ _ _ _ (ap g.D.Ground.out w.desk-is) (ap (λ s. s.nodes.seats) w.self-is) w.boot.ensures.out
      | in-Close w ↦ out-ids _ _ c.args.self.now.nodes.seats c.match-event.self.nodes.seats (ap g.D.Ground.out w.desk-is)
          (ap (λ s. ids_of s.nodes.seats) w.self-is ∙ w.close.ensures.ids) c.requires.out
      | in-Ask w ↦ out-ids _ _ c.args.self.now.nodes.seats c.match-event.self.nodes.seats (ap g.D.Ground.out w.desk-is)
          (ap (λ s. ids_of s.nodes.seats) w.self-is ∙ w.ask.ensures.ids) c.requires.out
      | in-Packet w ↦ out-ids _ _ c.args.self.now.nodes.seats c.match-event.self.nodes.seats (ap g.D.Ground.out w.desk-is)
          (ap (λ s. ids_of s.nodes.seats) w.self-is ∙ w.receive.ensures.ids) c.requires.out
      | in_default w ↦ out-same-at _ _ _ _ (ap g.D.Ground.out w.desk-is) (ap (λ s. s.nodes.seats) w.self-is) c.requires.out
    ]

pub returns-in_err-text-clause-out : goal.returns-in_err-text-clause-out
returns-in_err-text-clause-out g c = out g (goal.at.returns-in_err-text-clause-out g c).After-branch-text

pub returns-clause-out : goal.returns-clause-out
returns-clause-out g c = out g (goal.at.returns-clause-out g c).After-branch-text

pub returns-in_err-text-clause-answers : goal.returns-in_err-text-clause-answers
returns-in_err-text-clause-answers g c = λ alone is can.
    let answers = told g (goal.at.returns-in_err-text-clause-answers g c).After-branch-text alone is in
    let p = err_from_is_err_and c.from_residual.result c.from_residual.ensures.1 in
    rw (p.1, p.2) (tt, IfErr-at_err _ c.in_err-text.was answers.1)

pub returns-clause-answers : goal.returns-clause-answers
returns-clause-answers g c = λ alone is can.
    let link = tap_link.ghosts g.row.D-Wire g.D.Wire.Link g.D.Wire.Link-dict in
    let log = arming_log.ghosts g.row.D-Store g.D.Store.Log g.D.Store.Log-dict in
    let after = happens_alone alone c.args.event.now in
    let answers = told g (goal.at.returns-clause-answers g c).After-branch-text alone is in
    let both = IfOk-at_ok (λ text. (string_bytes text ≡ text_of after.lines)
    × IsAlone link log c.match-event.self.home c.match-event.self.nodes after.alone) c.in_ok-text.was answers.0 in
    ((ap (λ v. v.items) c.into_bytes.ensures.value ∙ both.0, both.1), tt)
