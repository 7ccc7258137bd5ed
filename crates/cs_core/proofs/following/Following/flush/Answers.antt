use Rattle.std.proofs.Common.{◌≡◌, ◌≢◌, ◌∙◌, [], length, take, drop, sym, ap, subst, arith, length-take}
use Rattle.cs_base.specs.Ascending.{IsDistinctBy}
use Rattle.cs_base.specs.Changes.{id_of}
use Rattle.cs_base.specs.Limits.{most_changes}
use Rattle.cs_fields.specs.Changes.{IsChanges}
use Rattle.cs_pending.specs.Reportable.{CanBeReported}
use Rattle.cs_pending.proofs.Reportable.{reportable-drop}
use Rattle.cs_core.specs.Node.{Following}
use Rattle.cs_core.proofs.OwnPlans.{flush-made}
use Rattle.cs_core.proofs.Reportable.{IsChanges-take, some-tested}
use Rattle.cs_core.proofs.following.Following.flush.Goals as goal

-- few changes are taken out
pub overflow_cast-count : goal.overflow_cast-count
overflow_cast-count c =
    omega (arith, c.len-count.ensures, ap length c.in_ok-front.ensures.taken, length-take most_changes c.in_ok-pending.pending)

-- they are a report
pub to_leader-requires : goal.to_leader-requires
to_leader-requires c =
    let m = c.args.self.now in
    let taken : c.in_ok-front.front ≡ take most_changes m.pending =
    c.in_ok-front.ensures.taken ∙ ap (take most_changes) (c.in_ok-pending.ensures ∙ c.pending-2.ensures.value) in
    let some : m.pending ≢ [] =
    some-tested c.is_empty.result m.pending (rw c.pending.ensures.value at c.is_empty.ensures) c.if-is_empty.false in
    subst (IsChanges 1) (sym taken)
    (IsChanges-take m.pending some c.pending.ensures.keeps (subst (IsDistinctBy id_of) taken c.in_ok-front.ensures.distinct))

-- and those behind them are still pending
pub with_pending-requires : goal.with_pending-requires
with_pending-requires c =
    let m = c.args.self.now in
    let rest : c.take_front.new.self ≡ drop most_changes m.pending =
    c.in_ok-front.ensures.rest ∙ ap (drop most_changes) (c.in_ok-pending.ensures ∙ c.pending-2.ensures.value) in
    subst CanBeReported (sym rest) (reportable-drop most_changes m.pending c.pending.ensures.keeps)

pub returns-clause-plan : goal.returns-clause-plan
returns-clause-plan c =
    let own = c.args.own.now in
    let m = c.args.self.now in
    let before = c.in_ok-pending.ensures ∙ c.pending-2.ensures.value in
    let taken : c.in_ok-front.front ≡ take most_changes m.pending = c.in_ok-front.ensures.taken ∙ ap (take most_changes) before in
    let rest : c.take_front.new.self ≡ drop most_changes m.pending = c.in_ok-front.ensures.rest ∙ ap (drop most_changes) before in
    let some : m.pending ≢ [] =
    some-tested c.is_empty.result m.pending (rw c.pending.ensures.value at c.is_empty.ensures) c.if-is_empty.false in
    let after : Following = c.in_ok-with_pending.field-0 in
    let same : after ≡ record m { pending = drop most_changes m.pending; seq = m.seq } =
    c.in_ok-with_pending.ensures ∙ rw (rest, c.seq.ensures) in
    rw (c.in_ok-to_leader.ensures.value, c.len-count.ensures, c.in_ok-goes_on.ensures, taken) (flush-made own m after m.pending some same)
