use Rattle.std.proofs.Common.{◌≡◌, ◌+◌, ◌≤◌, ◌∙◌, refl, sym, subst, arith}
use Rattle.std.specs.Prelude.{IsSome}
use Rattle.std.proofs.lemmas.Result.{err_from_is_err_and}
use Rattle.cs_world.specs.Seats.{seats_of, state_at}
use Rattle.census.specs.Drilled.{world_behind}
use Rattle.census.specs.Lived.{NodesRose, dry_in_pass}
use Rattle.census.proofs.DeskGrants.{OnlyGrants-more, OnlyGrants-same}
use Rattle.census.proofs.Receipts.{AreReceived-more, AreReceived-none, AreReceived-stopped, Rose-less, Rose-more, Rose-none, dry-next}
use Rattle.census.proofs.Receiving.{taken-few}
use Rattle.census.proofs.live_run.LiveRun.pass.Goals as goal
use Rattle.census.proofs.live_run.LiveRun.pass.Invariants.{of_link, of_log}

pub loop-before-preserved : goal.loop-before-preserved
loop-before-preserved g c =
    let inv = c.loop-before.invariant in
    let more = c.in_ok-came.field-0 in
    record {
      received = λ world stands.
          let r = inv.received world stands in
          AreReceived-more _ _ world c.loop-before.came _ _ _ _ r _ _ more
          (c.in_ok-came.ensures.received (world_behind world r.events) r.told.stands);
      rose = Rose-less _ _ _ _ _ _ _ (dry-next c.loop-before.before c.loop-before.came more c.in_ok-came.ensures.few)
          (Rose-more _ _ _ _ _ _ _ _ _ _ inv.rose c.in_ok-came.ensures.rose);
      few = omega (arith, inv.few, c.in_ok-came.ensures.few);
      stay = λ id there. c.in_ok-came.ensures.stay id (inv.stay id there);
      same = c.in_ok-came.ensures.same ∙ inv.same;
      counts = omega (arith, inv.counts, c.in_ok-came.ensures.counts);
      out = c.in_ok-came.ensures.out;
      field = OnlyGrants-more _ _ _ inv.field c.in_ok-came.ensures.field;
    }

pub returns-in_err-came-clause-stopped : goal.returns-in_err-came-clause-stopped
returns-in_err-came-clause-stopped g c =
    let p = err_from_is_err_and c.from_residual.result c.from_residual.ensures.1 in
    rw (p.1, p.2) (λ world stands.
    let r = c.loop-before.invariant.received world stands in
    AreReceived-stopped _ _ world _ _ _ _ _ r c.in_err-came.field-0.0
    (c.in_err-came.ensures.stopped (world_behind world r.events) r.told.stands))
