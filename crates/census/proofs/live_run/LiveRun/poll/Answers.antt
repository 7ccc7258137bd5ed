use Rattle.std.proofs.Common.{◌≡◌, ◌+◌, ◌≤◌, ◌∙◌, refl, sym, subst, arith}
use Rattle.std.proofs.lemmas.Result.{err_from_is_err_and}
use Rattle.cs_world.specs.Seats.{seats_of}
use Rattle.census.specs.Drilled.{world_behind}
use Rattle.census.specs.Lived.{NodesRose}
use Rattle.census.proofs.DeskGrants.{OnlyGrants-more, OnlyGrants-same}
use Rattle.census.proofs.Receipts.{AreReceived-more, AreReceived-none, AreReceived-stopped, Rose-less, Rose-more, Rose-none, dry-last, dry-many}
use Rattle.census.proofs.Receiving.{taken-few}
use Rattle.census.proofs.live_run.LiveRun.poll.Goals as goal
use Rattle.census.proofs.live_run.LiveRun.poll.Invariants.{of_link, of_log}

pub loop-init : goal.loop-init
loop-init g c = record {
  progress = (
    0,
    omega arith,
    Rose-none _ _ (taken-few (seats_of (of_link g) (of_log g) c.args.self.now.world.nodes.seats)),
    λ world stands. AreReceived-none _ _ world _ stands,
  );
  stay = λ id there. there;
  same = refl;
  counts = omega arith;
  out = c.requires.out;
  field = OnlyGrants-same _;
}

pub loop-preserved : goal.loop-preserved
loop-preserved g c =
    let inv = c.loop.invariant in
    let (came, least, rose, received) = inv.progress in
    let more = c.in_ok-pass.field-0 in
    record {
      progress = (
        came + more,
        omega (arith, least),
        Rose-less _ _ _ _ _ _ 0 (omega arith) (Rose-more _ _ _ _ _ _ _ _ _ _ rose c.in_ok-pass.ensures.rose),
        λ world stands.
            let r = received world stands in
            AreReceived-more _ _ world came _ _ _ _ r _ _ more (c.in_ok-pass.ensures.received (world_behind world r.events) r.told.stands),
      );
      stay = λ id there. c.in_ok-pass.ensures.stay id (inv.stay id there);
      same = c.in_ok-pass.ensures.same ∙ inv.same;
      counts = omega (arith, inv.counts, c.in_ok-pass.ensures.counts);
      out = c.in_ok-pass.ensures.out;
      field = OnlyGrants-more _ _ _ inv.field c.in_ok-pass.ensures.field;
    }

pub returns-then-branch-eq0-clause-polled : goal.returns-then-branch-eq0-clause-polled
returns-then-branch-eq0-clause-polled g c =
    let inv = c.loop.invariant in
    let (came, least, rose, received) = inv.progress in
    let more = c.in_ok-pass.field-0 in (
      came + more,
      Rose-less _ _ _ _ _ _ _ (dry-last c.args.self.now.nodes c.loop.self.nodes (came + more) more c.if-branch-eq0.true inv.same)
          (Rose-more _ _ _ _ _ _ _ _ _ _ rose c.in_ok-pass.ensures.rose),
      λ world stands.
          let r = received world stands in
          AreReceived-more _ _ world came _ _ _ _ r _ _ more (c.in_ok-pass.ensures.received (world_behind world r.events) r.told.stands),
    )

pub returns-clause-polled : goal.returns-clause-polled
returns-clause-polled g c =
    let (came, least, rose, received) = c.loop.invariant.progress in (
      came,
      subst (NodesRose (of_link g) (of_log g) c.args.self.now.world.nodes c.loop.self.world.nodes came)
          (sym (dry-many c.args.self.now.nodes came (omega (arith, least)))) rose,
      received,
    )

pub returns-in_err-pass-clause-stopped : goal.returns-in_err-pass-clause-stopped
returns-in_err-pass-clause-stopped g c =
    let p = err_from_is_err_and c.from_residual.result c.from_residual.ensures.1 in
    let (came, least, rose, received) = c.loop.invariant.progress in
    rw (p.1, p.2) (λ world stands.
    let r = received world stands in
    AreReceived-stopped _ _ world _ _ _ _ _ r c.in_err-pass.field-0.0 (c.in_err-pass.ensures.stopped (world_behind world r.events) r.told.stands))
