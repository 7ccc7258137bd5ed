use Rattle.std.proofs.Common.{◌≡◌, ◌∙◌, [], ◌∷◌, Ok, Some, ap, inr, refl, sym, subst, arith}
use Rattle.std.specs.Prelude.{IfSome}
use Rattle.std.proofs.lemmas.Result.{err_from_is_err_and}
use Rattle.cs_script.specs.Event.{IsEvent}
use Rattle.cs_world.specs.Receiving.{IsReceipt}
use Rattle.cs_world.specs.Seats.{seats_of}
use Rattle.cs_world.specs.Stands.{Stands}
use Rattle.census.specs.Drilled.{world_behind}
use Rattle.census.specs.Lived.{AreReceipts, AreTold, IsFrontIn, StopsIn}
use Rattle.census.specs.Run.{IsLineStop}
use Rattle.census.proofs.DeskGrants.{OnlyGrants-more, OnlyGrants-same}
use Rattle.census.proofs.Receipts.{AreReceived-failed, AreReceived-next, AreReceived-none, AreReceived-same, AreReceived-stopped}
use Rattle.census.proofs.Receipts.{Rose-last, Rose-next, Rose-none, quiet-receipt}
use Rattle.census.proofs.Receiving.{taken-few}
use Rattle.census.proofs.ToldEvents.{StopsIn-link}
use Rattle.census.proofs.live_run.LiveRun.take_from.Goals as goal
use Rattle.census.proofs.live_run.LiveRun.take_from.Invariants.{of_link, of_log}

pub tell-requires-clause-out : goal.tell-requires-clause-out
tell-requires-clause-out g c = c.in_ok-event.ensures.out _ c.loop-came.invariant.out

pub returns-in_err-event-clause-out : goal.returns-in_err-event-clause-out
returns-in_err-event-clause-out g c = c.in_err-event.ensures.out _ c.loop-came.invariant.out

pub returns-in_default-clause-out : goal.returns-in_default-clause-out
returns-in_default-clause-out g c = c.in_ok-event.ensures.out _ c.loop-came.invariant.out

pub loop-came-preserved : goal.loop-came-preserved
loop-came-preserved g c =
    let inv = c.loop-came.invariant in
    let event = c.in-Some.event in
    let receipt = subst (λ got. IfSome got IsReceipt) c.in-Some.is c.in_ok-event.ensures.receipt in
    record {
      received = λ world stands.
          let r = inv.received world stands in
          let behind = world_behind world r.events in
          AreReceived-next _ _ world c.loop-came.came _ _ _ _ r (Stands (of_link g) (of_log g) c.tell.new.self.world.nodes) _ _ event
          c.in_ok-event.ensures.written receipt
          (c.in_ok-tell.ensures.told behind (c.in_ok-event.ensures.stands behind r.told.stands));
      rose = Rose-next _ _ _ _ _ _ _ _ c.loop-came.came inv.rose (c.in_ok-event.ensures.some event (ap Ok c.in-Some.is))
          c.in_ok-tell.ensures.taken c.in_ok-tell.ensures.dry;
      stay = λ id there. c.in_ok-tell.ensures.stay id (c.in_ok-event.ensures.stay id (inv.stay id there));
      same = c.in_ok-tell.ensures.same ∙ c.in_ok-event.ensures.same ∙ inv.same;
      counts = omega (arith, inv.counts, c.in_ok-tell.ensures.counts);
      out = c.in_ok-tell.ensures.out;
      field = OnlyGrants-more _ _ _ inv.field c.in_ok-tell.ensures.field;
    }

pub returns-in_err-event-clause-stopped : goal.returns-in_err-event-clause-stopped
returns-in_err-event-clause-stopped g c =
    let p = err_from_is_err_and c.from_residual.result c.from_residual.ensures.1 in
    rw (p.1, p.2) (λ world stands.
    let r = c.loop-came.invariant.received world stands in
    AreReceived-stopped _ _ world _ _ _ _ _ r c.in_err-event.field-0.0
    (StopsIn-link AreReceipts _ (world_behind world r.events) tt c.in_err-event.field-0.0 _ c.in_err-event.ensures.stop.0))

pub returns-in_err-tell-clause-stopped : goal.returns-in_err-tell-clause-stopped
returns-in_err-tell-clause-stopped g c =
    let p = err_from_is_err_and c.from_residual-in_err-tell.result c.from_residual-in_err-tell.ensures.1 in
    rw (p.1, p.2) (λ world stands.
    let r = c.loop-came.invariant.received world stands in
    let behind = world_behind world r.events in
    AreReceived-failed _ _ world _ _ _ _ _ r c.in_err-tell.field-0.0 _ c.in-Some.event c.in_ok-event.ensures.written
    (subst (λ got. IfSome got IsReceipt) c.in-Some.is c.in_ok-event.ensures.receipt)
    (c.in_err-tell.ensures.stopped behind (c.in_ok-event.ensures.stands behind r.told.stands)))
