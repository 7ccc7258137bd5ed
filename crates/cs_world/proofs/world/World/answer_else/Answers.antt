-- each event by the call that answers it
use Rattle.std.proofs.Common.{◌≡◌, [], ℕ, IfErr, IsSome, subst, sym, ap, ◌∙◌}
use Rattle.std.specs.String.{string_bytes}
use Rattle.std.proofs.lemmas.Result.{IfErr-at_err, IfOk-at_ok, err_from_is_err_and}
use Rattle.cs_log.specs.Faults.{HasRisen}
use Rattle.cs_log.specs.contracts.arming.ArmingLog.TheImpl as arming_log
use Rattle.cs_machine.specs.Happens.{happens}
use Rattle.cs_machine.specs.Names.{World as Machine}
use Rattle.cs_world.specs.Receiving.{received_of}
use Rattle.cs_world.specs.Seats.{AreOut, ids_of, parts_at, seats_of, state_at}
use Rattle.cs_world.specs.Stands.{Answers, AnswersBytes, CanTell, IsCounted, Stands, Tells}
use Rattle.cs_world.specs.contracts.tap.TapLink.TheImpl as tap_link
use Rattle.cs_world.proofs.Answering.{answers-in}
use Rattle.cs_world.proofs.Calling.{never-here}
use Rattle.cs_world.proofs.Results.{counted-in, memory-counted}
use Rattle.cs_world.proofs.Starting.{ids-stay, out-ids, out-same-at}
use Rattle.cs_world.proofs.world.World.answer_else.Given.{Over}
use Rattle.cs_world.proofs.world.World.answer_else.Goals.{After-branch-text, in-Lead, in-Boot, in-Close, in-Ask, in-Deliver, in-Lose}
use Rattle.cs_world.proofs.world.World.answer_else.Goals.{in-Settle, in-Noise, in_default}
use Rattle.cs_world.proofs.world.World.answer_else.Goals as goal

-- what the call answers
told : (g : Over) (c : After-branch-text g) (world : Machine)
    → Stands (tap_link.ghosts g.row.D-Wire g.D.Wire.Link g.D.Wire.Link-dict) (arming_log.ghosts g.row.D-Store g.D.Store.Log g.D.Store.Log-dict)
    c.args.self.now.nodes world
    → CanTell c.args.event.now (parts_at (tap_link.ghosts g.row.D-Wire g.D.Wire.Link g.D.Wire.Link-dict)
    (arming_log.ghosts g.row.D-Store g.D.Store.Log g.D.Store.Log-dict) c.args.self.now.nodes.seats)
    → Answers (tap_link.ghosts g.row.D-Wire g.D.Wire.Link g.D.Wire.Link-dict) (arming_log.ghosts g.row.D-Store g.D.Store.Log g.D.Store.Log-dict)
    c.match-event.self.nodes (happens world c.args.event.now) c.match-event.branch'
told g c world stands can =
    let link = tap_link.ghosts g.row.D-Wire g.D.Wire.Link g.D.Wire.Link-dict in
    let log = arming_log.ghosts g.row.D-Store g.D.Store.Log g.D.Store.Log-dict in
    elim c.match-event.branch [
      | in-Lead w ↦ answers-in link log _ _ _ _ _ _
          (ap (λ s. s.nodes) w.self-is) w.branch'-is (ap (happens world) w.in-Lead.is) (w.lead.ensures.answers world stands)
      | in-Boot w ↦ answers-in link log _ _ _ _ _ _
          (ap (λ s. s.nodes) w.self-is) w.branch'-is (ap (happens world) w.in-Boot.is) (w.boot.ensures.answers world stands)
      | in-Close w ↦ answers-in link log _ _ _ _ _ _
          (ap (λ s. s.nodes) w.self-is) w.branch'-is (ap (happens world) w.in-Close.is) (w.close.ensures.answers world stands)
      | in-Ask w ↦ answers-in link log _ _ _ _ _ _
          (ap (λ s. s.nodes) w.self-is) w.branch'-is (ap (happens world) w.in-Ask.is) (w.ask.ensures.answers world stands)
      | in-Deliver w ↦ answers-in link log _ _ _ _ _ _
          (ap (λ s. s.nodes) w.self-is) w.branch'-is (ap (happens world) w.in-Deliver.is) (w.deliver.ensures.answers world stands)
      | in-Lose w ↦ answers-in link log _ _ _ _ _ _
          (ap (λ s. s.nodes) w.self-is) w.branch'-is (ap (happens world) w.in-Lose.is) (w.lose.ensures.answers world stands)
      | in-Settle w ↦ answers-in link log _ _ _ _ _ _
          (ap (λ s. s.nodes) w.self-is) w.branch'-is (ap (happens world) w.in-Settle.is) (w.settle.ensures.answers world stands)
      | in-Noise w ↦ answers-in link log _ _ _ _ _ _
          (ap (λ s. s.nodes) w.self-is) w.branch'-is (ap (happens world) w.in-Noise.is) (w.noise.ensures.answers world stands)
      | in_default w ↦ answers-in link log _ _ _ _ _ _ (ap (λ s. s.nodes) w.self-is) w.branch'-is
          (never-here world c.args.event.now c.requires.none w.in_default.not-Lead w.in_default.not-Boot w.in_default.not-Close
          w.in_default.not-Ask w.in_default.not-Deliver w.in_default.not-Lose w.in_default.not-Settle w.in_default.not-Noise
          w.in_default.not-Print) (w.not_here.ensures.answers world stands)
    ]

-- what a fault of it is counted by
counts : (g : Over) (c : After-branch-text g) → IfErr c.match-event.branch'
    (IsCounted (HasRisen (g.D.Ground.faults c.args.desk.now) (g.D.Ground.faults c.match-event.desk))
    (seats_of (tap_link.ghosts g.row.D-Wire g.D.Wire.Link g.D.Wire.Link-dict)
    (arming_log.ghosts g.row.D-Store g.D.Store.Log g.D.Store.Log-dict) c.match-event.self.nodes.seats))
counts g c =
    let link = tap_link.ghosts g.row.D-Wire g.D.Wire.Link g.D.Wire.Link-dict in
    let log = arming_log.ghosts g.row.D-Store g.D.Store.Log g.D.Store.Log-dict in
    let seats = seats_of link log c.match-event.self.nodes.seats in
    elim c.match-event.branch [
      | in-Lead w ↦ counted-in _ _ (λ risen. subst (HasRisen (g.D.Ground.faults c.args.desk.now)) (ap g.D.Ground.faults (sym w.desk-is)) risen) _ _ _ _
          (ap (λ s. seats_of link log s.nodes.seats) w.self-is) w.branch'-is w.lead.ensures.counted
      | in-Boot w ↦ counted-in _ _ (λ risen. subst (HasRisen (g.D.Ground.faults c.args.desk.now)) (ap g.D.Ground.faults (sym w.desk-is)) risen) _ _ _ _
          (ap (λ s. seats_of link log s.nodes.seats) w.self-is) w.branch'-is w.boot.ensures.counted
      | in-Close w ↦ counted-in ⊥ _ (λ none. absurd none) _ _ _ _
          (ap (λ s. seats_of link log s.nodes.seats) w.self-is) w.branch'-is w.close.ensures.counted
      | in-Ask w ↦ counted-in ⊥ _ (λ none. absurd none) _ _ _ _
          (ap (λ s. seats_of link log s.nodes.seats) w.self-is) w.branch'-is w.ask.ensures.counted
      | in-Deliver w ↦ counted-in ⊥ _ (λ none. absurd none) _ _ _ _
          (ap (λ s. seats_of link log s.nodes.seats) w.self-is) w.branch'-is w.deliver.ensures.counted
      | in-Lose w ↦ memory-counted _ seats _ _ w.branch'-is w.lose.ensures.memory
      | in-Settle w ↦ counted-in ⊥ _ (λ none. absurd none) _ _ _ _
          (ap (λ s. seats_of link log s.nodes.seats) w.self-is) w.branch'-is w.settle.ensures.counted
      | in-Noise w ↦ memory-counted _ seats _ _ w.branch'-is w.noise.ensures.memory
      | in_default w ↦ memory-counted _ seats _ _ w.branch'-is w.not_here.ensures.memory
    ]

-- and what is out after it
out : (g : Over) (c : After-branch-text g) → AreOut (g.D.Ground.out c.match-event.desk) c.match-event.self.nodes.seats
out g c =
    elim c.match-event.branch [
      | in-Lead w ↦ out-same-at _ _ _ _ (ap g.D.Ground.out w.desk-is) (ap (λ s. s.nodes.seats) w.self-is) w.lead.ensures.out
      | in-Boot w ↦ out-same-at _ _ _ _ (ap g.D.Ground.out w.desk-is) (ap (λ s. s.nodes.seats) w.self-is) w.boot.ensures.out
      | in-Close w ↦ out-ids _ _ c.args.self.now.nodes.seats c.match-event.self.nodes.seats (ap g.D.Ground.out w.desk-is)
          (ap (λ s. ids_of s.nodes.seats) w.self-is ∙ w.close.ensures.ids) c.requires.out
      | in-Ask w ↦ out-ids _ _ c.args.self.now.nodes.seats c.match-event.self.nodes.seats (ap g.D.Ground.out w.desk-is)
          (ap (λ s. ids_of s.nodes.seats) w.self-is ∙ w.ask.ensures.ids) c.requires.out
      | in-Deliver w ↦ out-ids _ _ c.args.self.now.nodes.seats c.match-event.self.nodes.seats (ap g.D.Ground.out w.desk-is)
          (ap (λ s. ids_of s.nodes.seats) w.self-is ∙ w.deliver.ensures.ids) c.requires.out
      | in-Lose w ↦ out-ids _ _ c.args.self.now.nodes.seats c.match-event.self.nodes.seats (ap g.D.Ground.out w.desk-is)
          (ap (λ s. ids_of s.nodes.seats) w.self-is ∙ w.lose.ensures.ids) c.requires.out
      | in-Settle w ↦ out-ids _ _ c.args.self.now.nodes.seats c.match-event.self.nodes.seats (ap g.D.Ground.out w.desk-is)
          (ap (λ s. ids_of s.nodes.seats) w.self-is ∙ w.settle.ensures.ids) c.requires.out
      | in-Noise w ↦ out-same-at _ _ _ _ (ap g.D.Ground.out w.desk-is) (ap (λ s. s.nodes.seats) w.self-is) c.requires.out
      | in_default w ↦ out-same-at _ _ _ _ (ap g.D.Ground.out w.desk-is) (ap (λ s. s.nodes.seats) w.self-is) c.requires.out
    ]

-- what links have received after it
received : (g : Over) (c : After-branch-text g) → received_of (seats_of (tap_link.ghosts g.row.D-Wire g.D.Wire.Link g.D.Wire.Link-dict)
    (arming_log.ghosts g.row.D-Store g.D.Store.Log g.D.Store.Log-dict) c.match-event.self.nodes.seats)
    ≡ received_of (seats_of (tap_link.ghosts g.row.D-Wire g.D.Wire.Link g.D.Wire.Link-dict)
    (arming_log.ghosts g.row.D-Store g.D.Store.Log g.D.Store.Log-dict) c.args.self.now.nodes.seats)
received g c =
    let link = tap_link.ghosts g.row.D-Wire g.D.Wire.Link g.D.Wire.Link-dict in
    let log = arming_log.ghosts g.row.D-Store g.D.Store.Log g.D.Store.Log-dict in
    elim c.match-event.branch [
      | in-Lead w ↦ ap (λ s. received_of (seats_of link log s.nodes.seats)) w.self-is ∙ w.lead.ensures.received
      | in-Boot w ↦ ap (λ s. received_of (seats_of link log s.nodes.seats)) w.self-is ∙ w.boot.ensures.received
      | in-Close w ↦ ap (λ s. received_of (seats_of link log s.nodes.seats)) w.self-is ∙ w.close.ensures.received
      | in-Ask w ↦ ap (λ s. received_of (seats_of link log s.nodes.seats)) w.self-is ∙ w.ask.ensures.received
      | in-Deliver w ↦ ap (λ s. received_of (seats_of link log s.nodes.seats)) w.self-is ∙ w.deliver.ensures.received
      | in-Lose w ↦ ap (λ s. received_of (seats_of link log s.nodes.seats)) w.self-is ∙ w.lose.ensures.received
      | in-Settle w ↦ ap (λ s. received_of (seats_of link log s.nodes.seats)) w.self-is ∙ w.settle.ensures.received
      | in-Noise w ↦ ap (λ s. received_of (seats_of link log s.nodes.seats)) w.self-is
      | in_default w ↦ ap (λ s. received_of (seats_of link log s.nodes.seats)) w.self-is
    ]

-- and who is there
stay : (g : Over) (c : After-branch-text g) (id : ℕ) → IsSome (state_at c.args.self.now.nodes.seats id)
    → IsSome (state_at c.match-event.self.nodes.seats id)
stay g c id some =
    elim c.match-event.branch [
      | in-Lead w ↦ subst (λ s. IsSome (state_at s.nodes.seats id)) (sym w.self-is) (w.lead.ensures.stay id some)
      | in-Boot w ↦ subst (λ s. IsSome (state_at s.nodes.seats id)) (sym w.self-is) (w.boot.ensures.stay id some)
      | in-Close w ↦ ids-stay c.args.self.now.nodes.seats c.match-event.self.nodes.seats
          (ap (λ s. ids_of s.nodes.seats) w.self-is ∙ w.close.ensures.ids) id some
      | in-Ask w ↦ ids-stay c.args.self.now.nodes.seats c.match-event.self.nodes.seats
          (ap (λ s. ids_of s.nodes.seats) w.self-is ∙ w.ask.ensures.ids) id some
      | in-Deliver w ↦ ids-stay c.args.self.now.nodes.seats c.match-event.self.nodes.seats
          (ap (λ s. ids_of s.nodes.seats) w.self-is ∙ w.deliver.ensures.ids) id some
      | in-Lose w ↦ ids-stay c.args.self.now.nodes.seats c.match-event.self.nodes.seats
          (ap (λ s. ids_of s.nodes.seats) w.self-is ∙ w.lose.ensures.ids) id some
      | in-Settle w ↦ ids-stay c.args.self.now.nodes.seats c.match-event.self.nodes.seats
          (ap (λ s. ids_of s.nodes.seats) w.self-is ∙ w.settle.ensures.ids) id some
      | in-Noise w ↦ subst (λ s. IsSome (state_at s.nodes.seats id)) (sym w.self-is) some
      | in_default w ↦ subst (λ s. IsSome (state_at s.nodes.seats id)) (sym w.self-is) some
    ]

pub returns-in_err-text-clause-answers : goal.returns-in_err-text-clause-answers
returns-in_err-text-clause-answers g c = λ world stands can.
    let answers = told g (goal.at.returns-in_err-text-clause-answers g c).After-branch-text world stands can in
    let p = err_from_is_err_and c.from_residual.result c.from_residual.ensures.1 in
    rw (p.1, p.2) (tt, IfErr-at_err _ c.in_err-text.was answers.1)

pub returns-in_err-text-clause-counted : goal.returns-in_err-text-clause-counted
returns-in_err-text-clause-counted g c =
    let counted = counts g (goal.at.returns-in_err-text-clause-counted g c).After-branch-text in
    let p = err_from_is_err_and c.from_residual.result c.from_residual.ensures.1 in
    rw (p.1, p.2) (IfErr-at_err _ c.in_err-text.was counted)

pub returns-in_err-text-clause-out : goal.returns-in_err-text-clause-out
returns-in_err-text-clause-out g c = out g (goal.at.returns-in_err-text-clause-out g c).After-branch-text

pub returns-clause-answers : goal.returns-clause-answers
returns-clause-answers g c = λ world stands can.
    let link = tap_link.ghosts g.row.D-Wire g.D.Wire.Link g.D.Wire.Link-dict in
    let log = arming_log.ghosts g.row.D-Store g.D.Store.Log g.D.Store.Log-dict in
    let after = happens world c.args.event.now in
    let answers = told g (goal.at.returns-clause-answers g c).After-branch-text world stands can in (
      subst (λ bytes. Tells link log c.match-event.self.nodes [] bytes.items after) (sym c.into_bytes.ensures.value)
          (IfOk-at_ok (λ text. Tells link log c.match-event.self.nodes [] (string_bytes text) after)
          c.in_ok-text.was answers.0),
      tt,
    )

pub returns-clause-out : goal.returns-clause-out
returns-clause-out g c = out g (goal.at.returns-clause-out g c).After-branch-text

pub returns-in_err-text-clause-received : goal.returns-in_err-text-clause-received
returns-in_err-text-clause-received g c = received g (goal.at.returns-in_err-text-clause-received g c).After-branch-text

pub returns-in_err-text-clause-stay : goal.returns-in_err-text-clause-stay
returns-in_err-text-clause-stay g c = stay g (goal.at.returns-in_err-text-clause-stay g c).After-branch-text

pub returns-clause-received : goal.returns-clause-received
returns-clause-received g c = received g (goal.at.returns-clause-received g c).After-branch-text

pub returns-clause-stay : goal.returns-clause-stay
returns-clause-stay g c = stay g (goal.at.returns-clause-stay g c).After-branch-text

pub returns-in-Print-clause-answers : goal.returns-in-Print-clause-answers
returns-in-Print-clause-answers g c = λ world stands can.
    let link = tap_link.ghosts g.row.D-Wire g.D.Wire.Link g.D.Wire.Link-dict in
    let log = arming_log.ghosts g.row.D-Store g.D.Store.Log g.D.Store.Log-dict in
    subst (λ e. AnswersBytes link log c.args.self.now.nodes (happens world e) c.print.result) (sym c.in-Print.is)
    (c.print.ensures.answers world stands)
