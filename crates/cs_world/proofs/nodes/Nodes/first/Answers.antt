-- the first seat is found under its id
use Rattle.std.proofs.Common.{IsSome, slice_get, refl, sym, ap, subst, ◌∙◌}
use Rattle.std.proofs.lemmas.Option.{same_Some}
use Rattle.cs_world.specs.Seats.{state_at}
use Rattle.cs_world.proofs.Places.{placed-state}
use Rattle.cs_world.proofs.nodes.Nodes.first.Goals as goal

pub returns-clause-some : goal.returns-clause-some
returns-clause-some g c = λ id same.
    let seats = c.args.self.now.seats in
    let seat = c.in_ok-seat.seat.now in
    let there = c.in_ok-seat.ensures.value ∙ ap (λ items. slice_get items 0) c.deref.ensures.value in
    subst (λ q. IsSome (state_at seats q)) (same_Some seat.id id same) (subst IsSome (sym (placed-state seats 0 seat (sym there))) refl)
