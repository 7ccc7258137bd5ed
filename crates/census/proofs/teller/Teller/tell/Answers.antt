use Rattle.std.proofs.Common.{◌≡◌, ◌≤◌, [], Ok, Err, is_err, ap, sym, subst, ◌∙◌, ⊎_elim, rules, arith}
use Rattle.std.proofs.lemmas.Result.{err_from_is_err_and}
use Rattle.cs_log.specs.contracts.arming.ArmingLog.TheImpl as arming
use Rattle.cs_script.specs.declared.fault.LineFault.TheVariants as faults
use Rattle.cs_script.specs.Grammar.{event_of}
use Rattle.cs_world.specs.contracts.tap.TapLink.TheImpl as tap
use Rattle.census.specs.Standing.{StandsFor}
use Rattle.census.specs.Streams.{Appends}
use Rattle.census.specs.Systems.{System}
use Rattle.census.specs.Text.{most_lines}
use Rattle.census.specs.declared.system.System.{System as Code}
use Rattle.census.proofs.EventStops.{IsLineStop-event}
use Rattle.census.proofs.LinesRead.{LineIsRead-event, LineIsRead-failed}
use Rattle.census.proofs.Restarts.{RestartIsTold-first}
use Rattle.census.proofs.ToldLines.{LineIsTold-event_failed, LineIsTold-fault, LineIsTold-fault_failed}
use Rattle.census.proofs.ToldLines.{LineIsTold-stopped, LineIsTold-unwritten}
use Rattle.census.proofs.teller.Teller.tell.Given.{Over}
use Rattle.census.proofs.teller.Teller.tell.Goals as goal

-- what the code's system stands for
abbrev StandsIn : (g : Over) → Code g.row.D.Denot g.row.D-Wire.Denot g.row.D-Store.Denot g.D.Wire.Link → System → Type 0
StandsIn g system =
    StandsFor (tap.ghosts g.row.D-Wire g.D.Wire.Link g.D.Wire.Link-dict) (arming.ghosts g.row.D-Store g.D.Store.Log g.D.Store.Log-dict) system

pub returns-in_err-text-in-Err-clause-told : goal.returns-in_err-text-in-Err-clause-told
returns-in_err-text-in-Err-clause-told g c =
    let p = err_from_is_err_and c.from_residual.result c.from_residual.ensures.1 in
    rw (p.1, p.2) (λ machine stands restarts.
    LineIsTold-unwritten (StandsIn g c.args.self.now.system) c.args.self.now.counts c.args.self.now.counts machine c.args.line.now _)

pub returns-in_err-write_all-in-Err-clause-told : goal.returns-in_err-write_all-in-Err-clause-told
returns-in_err-write_all-in-Err-clause-told g c =
    let stopped = c.in_err-write_all-in-Err.ensures in
    let p = err_from_is_err_and c.from_residual-in_err-write_all-in-Err.result c.from_residual-in_err-write_all-in-Err.ensures.1 in
    let known : c.in-Err.fault ≡ faults.Memory → ⊥ = search rules in
    let said : event_of c.args.line.now ≡ Err c.in-Err.fault =
    ⊎_elim (λ (e : Err c.in-Err.fault ≡ Err faults.Memory). absurd (known cc)) (λ e. sym e) c.in-Err.ensures.line in
    let few : c.args.self.now.counts.number ≤ most_lines = omega arith in
    let text = c.as_bytes.ensures.value ∙ c.in_ok-text-in-Err.ensures in
    rw (p.1, p.2) (λ machine stands restarts.
    LineIsTold-fault_failed (StandsIn g c.args.self.now.system) c.args.self.now.counts c.args.self.now.counts machine c.args.line.now _ _ few
    c.in-Err.fault said _ _ stopped.stop.0 text stopped.front)

pub returns-in_ok-write_all-in-Err-clause-told : goal.returns-in_ok-write_all-in-Err-clause-told
returns-in_ok-write_all-in-Err-clause-told g c =
    let known : c.in-Err.fault ≡ faults.Memory → ⊥ = search rules in
    let said : event_of c.args.line.now ≡ Err c.in-Err.fault =
    ⊎_elim (λ (e : Err c.in-Err.fault ≡ Err faults.Memory). absurd (known cc)) (λ e. sym e) c.in-Err.ensures.line in
    let few : c.args.self.now.counts.number ≤ most_lines = omega arith in
    let text = c.as_bytes.ensures.value ∙ c.in_ok-text-in-Err.ensures in
    λ machine stands restarts.
    LineIsTold-fault (StandsIn g c.args.self.now.system) c.args.self.now.counts c.args.self.now.counts machine c.args.line.now _ _ few
    c.in-Err.fault said _ stands text c.in_ok-write_all-in-Err.ensures.ok

pub returns-in_err-text-in-Ok-clause-told : goal.returns-in_err-text-in-Ok-clause-told
returns-in_err-text-in-Ok-clause-told g c = λ machine stands restarts.
    let p = err_from_is_err_and c.from_residual-in_err-text-in-Ok.result c.from_residual-in_err-text-in-Ok.ensures.1 in
    let said : event_of c.args.line.now ≡ Ok c.in-Ok.event = ⊎_elim (λ e. cc) (λ e. sym e) c.in-Ok.ensures.line in
    let few : c.args.self.now.counts.number ≤ most_lines = omega arith in
    let restart = RestartIsTold-first (g.D.Ground.logs c.args.desk.now) c.args.self.now.counts.number c.args.line.now [] few restarts
    c.in-Ok.event said in
    rw (p.1, p.2)
    (LineIsTold-stopped (StandsIn g c.output.new.self.system) c.args.self.now.counts c.output.new.self.counts machine c.args.line.now _ few
    c.in-Ok.event said _ _ _ c.in_err-text-in-Ok.ensures.stop (λ is. c.in_err-text-in-Ok.ensures.limit machine stands restart (ap Err is)))

pub returns-in_err-text-in-Ok-clause-stop : goal.returns-in_err-text-in-Ok-clause-stop
returns-in_err-text-in-Ok-clause-stop g c =
    let p = err_from_is_err_and c.from_residual-in_err-text-in-Ok.result c.from_residual-in_err-text-in-Ok.ensures.1 in
    rw (p.1, p.2) (IsLineStop-event c.in_err-text-in-Ok.field-0.0 _ _ _ c.in_err-text-in-Ok.ensures.stop)

pub returns-in_err-write_all-in-Ok-clause-told : goal.returns-in_err-write_all-in-Ok-clause-told
returns-in_err-write_all-in-Ok-clause-told g c = λ machine stands restarts.
    let stopped = c.in_err-write_all-in-Ok.ensures in
    let p = err_from_is_err_and c.from_residual-in_err-write_all-in-Ok.result c.from_residual-in_err-write_all-in-Ok.ensures.1 in
    let said : event_of c.args.line.now ≡ Ok c.in-Ok.event = ⊎_elim (λ e. cc) (λ e. sym e) c.in-Ok.ensures.line in
    let few : c.args.self.now.counts.number ≤ most_lines = omega arith in
    let restart = RestartIsTold-first (g.D.Ground.logs c.args.desk.now) c.args.self.now.counts.number c.args.line.now [] few restarts
    c.in-Ok.event said in
    let text = c.deref.ensures.value ∙ c.in_ok-text-in-Ok.ensures.text machine stands restart in
    rw (p.1, p.2)
    (LineIsTold-event_failed (StandsIn g c.output.new.self.system) c.args.self.now.counts c.output.new.self.counts machine c.args.line.now _ _
    few c.in-Ok.event said _ _ stopped.stop.0 text (c.in_ok-text-in-Ok.ensures.ok machine stands restart).within stopped.front)

pub returns-in_ok-write_all-in-Ok-clause-told : goal.returns-in_ok-write_all-in-Ok-clause-told
returns-in_ok-write_all-in-Ok-clause-told g c = λ machine stands restarts.
    let said : event_of c.args.line.now ≡ Ok c.in-Ok.event = ⊎_elim (λ e. cc) (λ e. sym e) c.in-Ok.ensures.line in
    let few : c.args.self.now.counts.number ≤ most_lines = omega arith in
    let restart = RestartIsTold-first (g.D.Ground.logs c.args.desk.now) c.args.self.now.counts.number c.args.line.now [] few restarts
    c.in-Ok.event said in
    let text = c.deref.ensures.value ∙ c.in_ok-text-in-Ok.ensures.text machine stands restart in
    let behind = c.in_ok-text-in-Ok.ensures.ok machine stands restart in (
      c.in-Ok.event,
      said,
      omega (arith, c.in_ok-text-in-Ok.ensures.number),
      record { written = behind.written; within = behind.within; stands = behind.stands },
      subst (Appends (g.K.Sink.written c.args.sink.now) (g.K.Sink.written c.write_all-in-Ok.new.sink)) text c.in_ok-write_all-in-Ok.ensures.ok,
    )

pub returns-in_err-text-in-Err-clause-read : goal.returns-in_err-text-in-Err-clause-read
returns-in_err-text-in-Err-clause-read g c =
    let p = err_from_is_err_and c.from_residual.result c.from_residual.ensures.1 in rw (p.1, p.2) tt

pub returns-in_err-write_all-in-Err-clause-read : goal.returns-in_err-write_all-in-Err-clause-read
returns-in_err-write_all-in-Err-clause-read g c =
    let p = err_from_is_err_and c.from_residual-in_err-write_all-in-Err.result c.from_residual-in_err-write_all-in-Err.ensures.1 in
    rw (p.1, p.2)
    (LineIsRead-failed c.args.self.now.counts.number c.args.self.now.counts.number c.args.line.now _ c.in_err-write_all-in-Err.ensures.stop.0)

pub returns-in_err-text-in-Ok-clause-read : goal.returns-in_err-text-in-Ok-clause-read
returns-in_err-text-in-Ok-clause-read g c =
    let p = err_from_is_err_and c.from_residual-in_err-text-in-Ok.result c.from_residual-in_err-text-in-Ok.ensures.1 in
    rw (p.1, p.2)
    (LineIsRead-event c.args.self.now.counts.number c.output.new.self.counts.number c.args.line.now _ _ _ c.in_err-text-in-Ok.ensures.stop)

pub returns-in_err-write_all-in-Ok-clause-read : goal.returns-in_err-write_all-in-Ok-clause-read
returns-in_err-write_all-in-Ok-clause-read g c =
    let p = err_from_is_err_and c.from_residual-in_err-write_all-in-Ok.result c.from_residual-in_err-write_all-in-Ok.ensures.1 in
    rw (p.1, p.2)
    (LineIsRead-failed c.args.self.now.counts.number c.output.new.self.counts.number c.args.line.now _ c.in_err-write_all-in-Ok.ensures.stop.0)

pub returns-in_ok-write_all-in-Err-clause-read : goal.returns-in_ok-write_all-in-Err-clause-read
returns-in_ok-write_all-in-Err-clause-read g c =
    let known : c.in-Err.fault ≡ faults.Memory → ⊥ = search rules in
    let said : event_of c.args.line.now ≡ Err c.in-Err.fault =
    ⊎_elim (λ (e : Err c.in-Err.fault ≡ Err faults.Memory). absurd (known cc)) (λ e. sym e) c.in-Err.ensures.line in
    (omega arith, ap is_err said)

pub returns-in_ok-write_all-in-Ok-clause-read : goal.returns-in_ok-write_all-in-Ok-clause-read
returns-in_ok-write_all-in-Ok-clause-read g c =
    let said : event_of c.args.line.now ≡ Ok c.in-Ok.event = ⊎_elim (λ e. cc) (λ e. sym e) c.in-Ok.ensures.line in
    (omega arith, omega (arith, c.in_ok-text-in-Ok.ensures.number), ap is_err said)
