use Rattle.std.proofs.Common.{[], ◌∷◌, Err, refl, ap, subst}
use Rattle.std.proofs.lemmas.Result.{err_from_is_err_and}
use Rattle.census.specs.Lived.{IsFrontIn}
use Rattle.census.specs.Run.{WritesFront}
use Rattle.census.proofs.Drills.{on-err}
use Rattle.census.proofs.ToldEvents.{StopsIn-untold, StopsIn-unwritten}
use Rattle.census.proofs.live_run.LiveRun.tell.Goals as goal

pub returns-in_err-text-clause-stopped : goal.returns-in_err-text-clause-stopped
returns-in_err-text-clause-stopped g c =
    let p = err_from_is_err_and c.from_residual.result c.from_residual.ensures.1 in
    rw (p.1, p.2) (λ world stands.
    StopsIn-untold (IsFrontIn (c.args.event.now ∷ [])) _ world (c.args.event.now ∷ [], refl) _ _ c.in_err-text.field-0.0 c.args.event.now _
    c.in_err-text.ensures.stop ([], refl) (λ is. c.in_err-text.ensures.limit world stands (ap Err is)))

pub returns-clause-stopped : goal.returns-clause-stopped
returns-clause-stopped g c = λ world stands.
    on-err c.write_all.result c.write_all.ensures.front c.write_all.ensures.stop (λ status front stop.
    StopsIn-unwritten (IsFrontIn (c.args.event.now ∷ [])) _ _ _ world c.args.event.now _ status _ _ ([], refl) c.requires.ranges
    (c.in_ok-text.ensures.ok world stands) stop.0
    (subst (λ t. WritesFront t (g.K.Sink.written c.args.sink.now) (g.K.Sink.written c.write_all.new.sink)) c.deref.ensures.value front))
