-- place by place
use Rattle.std.proofs.Common.{◌≡◌, ◌∙◌, refl, subst, arith}
use Rattle.std.specs.String.{string_bytes}
use Rattle.std.proofs.lemmas.Result.{err_from_is_err_and}
use Rattle.cs_machine.specs.Names.{World as Machine}
use Rattle.cs_world.specs.Stands.{Stands}
use Rattle.cs_world.proofs.Rounds.{RoundTo, opened-by, round-deliver, round-end, round-limit, round-skip, round-start}
use Rattle.cs_world.proofs.nodes.Nodes.settle_round.Goals.{then-is_open+in_ok-settle_one, else-is_open}
use Rattle.cs_world.proofs.nodes.Nodes.settle_round.Goals as goal

pub loop-place-init : goal.loop-place-init
loop-place-init g c = (
  λ world stands. round-start g.L.Link g.G.Log c.args.self.now world stands (string_bytes c.args.out.now) c.len-end.result
      c.len-end.ensures.count,
  omega arith,
  refl,
  omega (arith, c.len-end.ensures.count),
  refl,
  refl,
)

pub returns-in_err-settle_one-clause-fault : goal.returns-in_err-settle_one-clause-fault
returns-in_err-settle_one-clause-fault g c = λ world stands.
    let here = c.loop-place.self in
    let so_far = c.loop-place.invariant.0 world stands in
    let opened = opened-by g.L.Link g.G.Log here so_far.world c.loop-place.place c.is_open.result so_far.stands
    (omega (arith, c.loop-place-test.true, c.loop-place.invariant.3)) c.is_open.ensures ∙ c.if-is_open.true in
    let p = err_from_is_err_and c.from_residual.result c.from_residual.ensures.1 in
    rw (p.1, p.2) (round-limit g.L.Link g.G.Log world here (string_bytes c.args.out.now) (string_bytes c.loop-place.out) c.loop-place.count
    c.loop-place.place c.len-end.result so_far c.loop-place-test.true opened c.in_err-settle_one.field-0.0
    (c.in_err-settle_one.ensures.fault so_far.world so_far.stands))

pub returns-in_err-settle_one-clause-ids : goal.returns-in_err-settle_one-clause-ids
returns-in_err-settle_one-clause-ids g c = c.in_err-settle_one.ensures.ids ∙ c.loop-place.invariant.4

pub returns-in_err-settle_one-clause-received : goal.returns-in_err-settle_one-clause-received
returns-in_err-settle_one-clause-received g c = c.in_err-settle_one.ensures.received ∙ c.loop-place.invariant.5

pub loop-place-preserved : goal.loop-place-preserved
loop-place-preserved g c =
    let here = c.loop-place.self in
    let place = c.loop-place.place in
    let before = string_bytes c.args.out.now in
    let now = string_bytes c.loop-place.out in
    let count = c.loop-place.count in
    let end = c.len-end.result in
    let opened = λ (world : Machine) (stands : Stands g.L.Link g.G.Log c.args.self.now world).
    (let so_far = c.loop-place.invariant.0 world stands in
    opened-by g.L.Link g.G.Log here so_far.world place c.is_open.result so_far.stands
    (omega (arith, c.loop-place-test.true, c.loop-place.invariant.3)) c.is_open.ensures) in
    elim c.if-is_open.branch [
      | then-is_open+in_ok-settle_one w ↦
          let next = λ (world : Machine) (stands : Stands g.L.Link g.G.Log c.args.self.now world).
          (let so_far = c.loop-place.invariant.0 world stands in
          round-deliver g.L.Link g.G.Log world here before now count place end so_far c.loop-place-test.true
          (opened world stands ∙ w.if-is_open.true) w.settle_one.new.self (string_bytes w.settle_one.new.out)
          (w.in_ok-settle_one.ensures.told so_far.world so_far.stands)) in
          rw (w.self-is, w.out-is, w.count-is) (
            next,
            omega (arith, c.loop-place.invariant.1),
            w.in_ok-settle_one.ensures.front ∙ c.loop-place.invariant.2,
            omega (arith, c.loop-place.invariant.3, w.in_ok-settle_one.ensures.longer),
            w.in_ok-settle_one.ensures.ids ∙ c.loop-place.invariant.4,
            w.in_ok-settle_one.ensures.received ∙ c.loop-place.invariant.5,
          )
      | else-is_open w ↦
          rw (w.self-is, w.out-is, w.count-is) (
            λ world stands. round-skip g.L.Link g.G.Log world here before now count place end (c.loop-place.invariant.0 world stands)
                c.loop-place-test.true (opened world stands ∙ w.if-is_open.false),
            omega (arith, c.loop-place.invariant.1),
            c.loop-place.invariant.2,
            c.loop-place.invariant.3,
            c.loop-place.invariant.4,
            c.loop-place.invariant.5,
          )
    ]

pub returns-clause-told : goal.returns-clause-told
returns-clause-told g c = λ world stands.
    let end = c.len-end.result in
    let here = c.loop-place.self in
    let same : c.loop-place.place ≡ end =
    omega (arith, c.loop-place.auto.place-end, c.loop-place-test.false, c.args.self.now.traffic.passed, c.len-end.ensures.count) in
    let so_far = subst (λ place. RoundTo g.L.Link g.G.Log world here (string_bytes c.args.out.now) (string_bytes c.loop-place.out)
    c.loop-place.count place end) same (c.loop-place.invariant.0 world stands) in
    round-end g.L.Link g.G.Log world here _ (string_bytes c.args.out.now) (string_bytes c.loop-place.out) c.loop-place.count end so_far
    refl refl refl refl refl refl

pub returns-clause-few : goal.returns-clause-few
returns-clause-few g c =
    omega (arith, c.loop-place.invariant.1, c.loop-place.auto.place-end, c.args.self.now.traffic.passed, c.len-end.ensures.count)

pub returns-clause-ids : goal.returns-clause-ids
returns-clause-ids g c = c.loop-place.invariant.4

pub returns-clause-received : goal.returns-clause-received
returns-clause-received g c = c.loop-place.invariant.5
