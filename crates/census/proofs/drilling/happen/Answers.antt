use Rattle.std.proofs.Common.{◌≡◌, ◌+◌, ◌∷◌, drop, sym, ap, subst}
use Rattle.std.specs.Prelude.{IsSome}
use Rattle.std.proofs.lemmas.Result.{err_from_is_err_and}
use Rattle.cs_machine.specs.Happens.{happens}
use Rattle.cs_world.specs.Desk.{DeskTold, OnlyGrants}
use Rattle.cs_world.specs.Stands.{IsLimitOf, Stands}
use Rattle.cs_world.specs.declared.fault.WorldFault.TheVariants.{Limit}
use Rattle.census.proofs.DeskGrants.{OnlyGrants-more}
use Rattle.census.proofs.Drills.{IsOnTheWay, first-left, next-goes-beyond, next-happened}
use Rattle.census.proofs.drilling.happen.Invariants.{of_link, of_log}
use Rattle.census.proofs.drilling.happen.Goals as goal

-- a desk that told its logs before tells them now
told-now : (before now : DeskTold) → OnlyGrants before now → IsSome before.logs → IsSome now.logs
told-now before now grants told = subst IsSome (sym (ap (λ (desk : DeskTold). desk.logs) grants.others)) told

pub loop-event-preserved : goal.loop-event-preserved
loop-event-preserved g c =
    let event = c.event-item.result in
    let all = c.args.events.now in
    let next : drop c.loop-event.event-index all ≡ event ∷ drop (c.loop-event.event-index + 1) all =
    subst (λ events. drop c.loop-event.event-index events ≡ event ∷ drop (c.loop-event.event-index + 1) events) c.as_slice-event-items.ensures
    (first-left _ c.loop-event.event-index event c.loop-event-test.true c.event-item.is) in
    record {
      way = λ machine stands told.
          let Stand = Stands (of_link g) (of_log g) c.loop-event.world.nodes in
          let way = subst (IsOnTheWay Stand machine all) next (c.loop-event.invariant.way machine stands told) in
          let behind = c.in_ok-happen_quietly.ensures.behind way.world way.stands (told-now _ _ c.loop-event.invariant.desk told) in
          next-happened Stand machine all (drop (c.loop-event.event-index + 1) all) event way
          (Stands (of_link g) (of_log g) c.happen_quietly.new.world.nodes) behind behind.traffic.few;
      out = c.in_ok-happen_quietly.ensures.out;
      desk = OnlyGrants-more _ _ _ c.loop-event.invariant.desk c.in_ok-happen_quietly.ensures.desk;
    }

pub returns-in_err-happen_quietly-clause-limit : goal.returns-in_err-happen_quietly-clause-limit
returns-in_err-happen_quietly-clause-limit g c = λ machine stands told is.
    let fault = c.in_err-happen_quietly.field-0.0 in
    let p = err_from_is_err_and c.from_residual.result c.from_residual.ensures.1 in
    let limit : fault ≡ Limit = (cc) in
    let event = c.event-item.result in
    let all = c.args.events.now in
    let next : drop c.loop-event.event-index all ≡ event ∷ drop (c.loop-event.event-index + 1) all =
    subst (λ events. drop c.loop-event.event-index events ≡ event ∷ drop (c.loop-event.event-index + 1) events) c.as_slice-event-items.ensures
    (first-left _ c.loop-event.event-index event c.loop-event-test.true c.event-item.is) in
    let Stand = Stands (of_link g) (of_log g) c.loop-event.world.nodes in
    let way = subst (IsOnTheWay Stand machine all) next (c.loop-event.invariant.way machine stands told) in
    let many = c.in_err-happen_quietly.ensures.limit way.world way.stands (told-now _ _ c.loop-event.invariant.desk told) in
    next-goes-beyond Stand machine all (drop (c.loop-event.event-index + 1) all) event way (subst (IsLimitOf (happens way.world event).world) limit many)
