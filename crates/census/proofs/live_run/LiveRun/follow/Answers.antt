use Rattle.std.proofs.Common.{◌≡◌, ◌∷◌, ◌+◌, ◌∙◌, List, [], drop, refl, sym, ap, subst, arith}
use Rattle.std.proofs.lemmas.List.{drop_all}
use Rattle.std.proofs.lemmas.Result.{err_from_is_err_and}
use Rattle.cs_base.specs.Ranges.{IsFromTo}
use Rattle.cs_drill.specs.Plan.{live_plan}
use Rattle.cs_drill.specs.declared.plan.Planned.TheVariants as planned
use Rattle.cs_machine.specs.Names.{empty_world}
use Rattle.cs_world.specs.Seats.{seats_of}
use Rattle.census.specs.Drilled.{world_behind}
use Rattle.census.specs.Lived.{NodesRose, dry_in_poll}
use Rattle.census.proofs.DeskGrants.{OnlyGrants-more, OnlyGrants-same}
use Rattle.census.proofs.LivePlan.{IsOnPlan-all, IsOnPlan-end, IsOnPlan-event, IsOnPlan-event_stopped, IsOnPlan-none, IsOnPlan-poll}
use Rattle.census.proofs.LivePlan.{IsOnPlan-poll_stopped, IsOnPlan-there, StopsIn-memory, WritesLife-stopped, step-left, step-quiet}
use Rattle.census.proofs.Receipts.{Rose-more, Rose-none, Rose-same}
use Rattle.census.proofs.Receiving.{stands-there, taken-few}
use Rattle.census.proofs.live_run.LiveRun.follow.Goals as goal
use Rattle.census.proofs.live_run.LiveRun.follow.Goals.{in-Event+in_ok-tell-in-Event, in-Poll+in_ok-poll-in-Poll}
use Rattle.census.proofs.live_run.LiveRun.follow.Invariants.{IsOn, of_link, of_log}

pub returns-in_err-plan-clause-life : goal.returns-in_err-plan-clause-life
returns-in_err-plan-clause-life g c =
    let p = err_from_is_err_and c.from_residual.result c.from_residual.ensures.1 in
    rw (p.1, p.2) (StopsIn-memory c.args.self.now.nodes c.args.port (g.K.Sink.written c.args.sink.now))

pub loop-step-init : goal.loop-step-init
loop-step-init g c = record {
  on = IsOnPlan-none _ _ _ c.args.self.now.nodes c.args.port c.args.self.now.written _ (omega arith) c.requires.stands c.requires.written
      (Rose-none _ _ (taken-few (seats_of (of_link g) (of_log g) c.args.self.now.world.nodes.seats)));
  same = refl;
  counts = omega arith;
  out = c.requires.out;
  field = OnlyGrants-same _;
}

pub tell-requires-clause-quiet : goal.tell-requires-clause-quiet
tell-requires-clause-quiet g c =
    step-quiet c.args.self.now.nodes c.args.port c.loop-step.step-index c.in-Event.event
    (step-left _ _ _ _ _ (c.as_slice-step-items.ensures ∙ c.in_ok-plan.ensures.value) c.loop-step-test.true c.step-item.is c.in-Event.is)

pub returns-in_err-tell-in-Event-clause-life : goal.returns-in_err-tell-in-Event-clause-life
returns-in_err-tell-in-Event-clause-life g c =
    let p = err_from_is_err_and c.from_residual-in_err-tell-in-Event.result c.from_residual-in_err-tell-in-Event.ensures.1 in
    let next = step-left _ _ _ _ (planned.Event c.in-Event.event) (c.as_slice-step-items.ensures ∙ c.in_ok-plan.ensures.value)
    c.loop-step-test.true c.step-item.is c.in-Event.is in
    let on = subst (λ left. IsOn g c.args.self.now c.loop-step.self c.args.port left (g.K.Sink.written c.args.sink.now)
    (g.K.Sink.written c.loop-step.sink)) next c.loop-step.invariant.on in
    let status = c.in_err-tell-in-Event.field-0.0 in
    rw (p.1, p.2)
    (WritesLife-stopped status c.args.self.now.nodes c.args.port _ _
    (NodesRose (of_link g) (of_log g) c.args.self.now.world.nodes c.tell.new.self.world.nodes)
    (IsOnPlan-event_stopped _ _ _ _ _ _ _ _ _ _ c.in-Event.event on status
    (c.in_err-tell-in-Event.ensures.stopped (world_behind empty_world on.told) on.are.stands)))

pub poll-requires-clause-started : goal.poll-requires-clause-started
poll-requires-clause-started g c =
    let next = step-left _ _ _ _ planned.Poll (c.as_slice-step-items.ensures ∙ c.in_ok-plan.ensures.value) c.loop-step-test.true
    c.step-item.is c.in-Poll.is in
    let on = subst (λ left. IsOn g c.args.self.now c.loop-step.self c.args.port left (g.K.Sink.written c.args.sink.now)
    (g.K.Sink.written c.loop-step.sink)) next c.loop-step.invariant.on in
    λ id is. IsOnPlan-there _ _ _ _ _ _ _ _ _ on id (subst (λ n. IsFromTo 1 n id) c.loop-step.invariant.same is)

pub returns-in_err-poll-in-Poll-clause-life : goal.returns-in_err-poll-in-Poll-clause-life
returns-in_err-poll-in-Poll-clause-life g c =
    let p = err_from_is_err_and c.from_residual-in_err-poll-in-Poll.result c.from_residual-in_err-poll-in-Poll.ensures.1 in
    let next = step-left _ _ _ _ planned.Poll (c.as_slice-step-items.ensures ∙ c.in_ok-plan.ensures.value) c.loop-step-test.true
    c.step-item.is c.in-Poll.is in
    let on = subst (λ left. IsOn g c.args.self.now c.loop-step.self c.args.port left (g.K.Sink.written c.args.sink.now)
    (g.K.Sink.written c.loop-step.sink)) next c.loop-step.invariant.on in
    let status = c.in_err-poll-in-Poll.field-0.0 in
    rw (p.1, p.2)
    (WritesLife-stopped status c.args.self.now.nodes c.args.port _ _
    (NodesRose (of_link g) (of_log g) c.args.self.now.world.nodes c.poll.new.self.world.nodes)
    (IsOnPlan-poll_stopped _ _ _ _ _ _ _ _ _ _ on status
    (c.in_err-poll-in-Poll.ensures.stopped (world_behind empty_world on.told) on.are.stands)))

pub loop-step-preserved : goal.loop-step-preserved
loop-step-preserved g c =
    let inv = c.loop-step.invariant in
    let before = g.K.Sink.written c.args.sink.now in
    let same = c.as_slice-step-items.ensures ∙ c.in_ok-plan.ensures.value in
    elim c.match-step.branch [
      | in-Event+in_ok-tell-in-Event w ↦
          let told = w.in_ok-tell-in-Event.ensures in
          let next = step-left _ _ _ _ (planned.Event w.in-Event.event) same c.loop-step-test.true c.step-item.is w.in-Event.is in
          let on = subst (λ left. IsOn g c.args.self.now c.loop-step.self c.args.port left before (g.K.Sink.written c.loop-step.sink)) next inv.on in
          rw (w.self-is, w.field-is, w.sink-is) (record {
            on = IsOnPlan-event _ _ _ _ _ _ _ _ _ _ w.in-Event.event on _ _ _ _ told.stay
                (λ world stands. stands-there (of_link g) (of_log g) w.tell.new.self.world.nodes world stands)
                (told.told (world_behind empty_world on.told) on.are.stands) (Rose-same _ _ _ _ _ _ _ _ on.rose told.taken told.dry);
            same = told.same ∙ inv.same;
            counts = omega (arith, inv.counts, told.counts);
            out = told.out;
            field = OnlyGrants-more _ _ _ inv.field told.field;
          })
      | in-Poll+in_ok-poll-in-Poll w ↦
          let polled = w.in_ok-poll-in-Poll.ensures in
          let (came, rose, received) = polled.polled in
          let next = step-left _ _ _ _ planned.Poll same c.loop-step-test.true c.step-item.is w.in-Poll.is in
          let on = subst (λ left. IsOn g c.args.self.now c.loop-step.self c.args.port left before (g.K.Sink.written c.loop-step.sink)) next inv.on in
          rw (w.self-is, w.field-is, w.sink-is) (record {
            on = IsOnPlan-poll _ _ _ _ _ _ _ _ _ _ on _ _ _ _ came polled.stay (received (world_behind empty_world on.told) on.are.stands)
                (Rose-more _ _ _ _ _ _ _ _ _ _ on.rose
                (subst (λ n. NodesRose (of_link g) (of_log g) c.loop-step.self.world.nodes w.poll.new.self.world.nodes came (dry_in_poll n came))
                inv.same rose));
            same = polled.same ∙ inv.same;
            counts = omega (arith, inv.counts, polled.counts);
            out = polled.out;
            field = OnlyGrants-more _ _ _ inv.field polled.field;
          })
    ]

pub returns-clause-life : goal.returns-clause-life
returns-clause-life g c =
    let same = c.as_slice-step-items.ensures ∙ c.in_ok-plan.ensures.value in
    let none = sym (ap (drop c.loop-step.step-index) same) ∙ drop_all c.loop-step.step-index _ c.loop-step-test.false in
    IsOnPlan-all _ _ _ _ _ _ _ _
    (subst (λ left. IsOn g c.args.self.now c.loop-step.self c.args.port left (g.K.Sink.written c.args.sink.now)
    (g.K.Sink.written c.loop-step.sink)) none c.loop-step.invariant.on)

pub returns-clause-there : goal.returns-clause-there
returns-clause-there g c =
    let same = c.as_slice-step-items.ensures ∙ c.in_ok-plan.ensures.value in
    let none = sym (ap (drop c.loop-step.step-index) same) ∙ drop_all c.loop-step.step-index _ c.loop-step-test.false in
    IsOnPlan-end _ _ _ _ _ _ _ _
    (subst (λ left. IsOn g c.args.self.now c.loop-step.self c.args.port left (g.K.Sink.written c.args.sink.now)
    (g.K.Sink.written c.loop-step.sink)) none c.loop-step.invariant.on) 1 (omega arith, omega arith)
