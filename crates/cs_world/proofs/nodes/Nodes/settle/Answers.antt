-- round by round
use Rattle.std.proofs.Common.{◌≤◌, ◌⊎◌, inl, inr, ◌∙◌, length, arith}
use Rattle.std.specs.String.{string_bytes}
use Rattle.std.proofs.lemmas.Result.{err_from_is_err_and}
use Rattle.cs_world.proofs.SettleRuns.{settle-end, settle-limit, settle-round}
use Rattle.cs_world.proofs.nodes.Nodes.settle.Goals.{then-loop-rounds-test+else-self-len, else-loop-rounds-test}
use Rattle.cs_world.proofs.nodes.Nodes.settle.Goals as goal

pub returns-in_err-count-clause-answers : goal.returns-in_err-count-clause-answers
returns-in_err-count-clause-answers g c = λ world stands.
    let so_far = c.loop-rounds.invariant.0 world stands in
    let p = err_from_is_err_and c.from_residual.result c.from_residual.ensures.1 in
    rw (p.1, p.2) (
      tt,
      settle-limit g.L.Link g.G.Log world c.args.most c.loop-rounds.self (string_bytes c.loop-rounds.text) c.loop-rounds.count
          c.loop-rounds.rounds so_far c.in_err-count.field-0.0 c.loop-rounds-test.true
          (c.in_err-count.ensures.fault so_far.world so_far.stands),
    )

pub returns-in_err-count-clause-ids : goal.returns-in_err-count-clause-ids
returns-in_err-count-clause-ids g c = c.in_err-count.ensures.ids ∙ c.loop-rounds.invariant.2

pub returns-in_err-count-clause-received : goal.returns-in_err-count-clause-received
returns-in_err-count-clause-received g c = c.in_err-count.ensures.received ∙ c.loop-rounds.invariant.3

pub overflow_add-count : goal.overflow_add-count
overflow_add-count g c =
    let traffic = c.settle_round.new.self.traffic in
    omega (arith, c.loop-rounds.invariant.1, c.in_ok-count.ensures.few, traffic.passed, traffic.datagrams.ok.0)

pub loop-rounds-preserved : goal.loop-rounds-preserved
loop-rounds-preserved g c = (
  λ world stands. (let so_far = c.loop-rounds.invariant.0 world stands in
      settle-round g.L.Link g.G.Log world c.args.most c.loop-rounds.self (string_bytes c.loop-rounds.text) c.loop-rounds.count
      c.loop-rounds.rounds so_far c.settle_round.new.self (string_bytes c.settle_round.new.out) c.in_ok-count.field-0
      c.loop-rounds-test.true (c.in_ok-count.ensures.told so_far.world so_far.stands)),
  omega (arith, c.loop-rounds.invariant.1, c.in_ok-count.ensures.few),
  c.in_ok-count.ensures.ids ∙ c.loop-rounds.invariant.2,
  c.in_ok-count.ensures.received ∙ c.loop-rounds.invariant.3,
)

pub returns-clause-answers : goal.returns-clause-answers
returns-clause-answers g c = λ world stands.
    let so_far = c.loop-rounds.invariant.0 world stands in
    let ends : (c.args.most ≤ c.loop-rounds.rounds) ⊎ (length c.loop-rounds.self.traffic.datagrams.items ≤ c.loop-rounds.self.traffic.front) =
    elim c.loop-rounds-test.branch [
      | then-loop-rounds-test+else-self-len w ↦ inr (omega (arith, w.if-self-len.false, w.len.ensures.count))
      | else-loop-rounds-test w ↦ inl (omega (arith, w.loop-rounds-test.false))
    ] in (
      settle-end g.L.Link g.G.Log world c.args.most c.loop-rounds.self (string_bytes c.loop-rounds.text) c.loop-rounds.count
          c.loop-rounds.rounds so_far ends (string_bytes c.writeln.new.self) c.in_ok-writeln.ensures.bytes,
      tt,
    )

pub returns-in_err-writeln-clause-ids : goal.returns-in_err-writeln-clause-ids
returns-in_err-writeln-clause-ids g c = c.loop-rounds.invariant.2

pub returns-clause-ids : goal.returns-clause-ids
returns-clause-ids g c = c.loop-rounds.invariant.2

pub returns-in_err-writeln-clause-received : goal.returns-in_err-writeln-clause-received
returns-in_err-writeln-clause-received g c = c.loop-rounds.invariant.3

pub returns-clause-received : goal.returns-clause-received
returns-clause-received g c = c.loop-rounds.invariant.3
